use Rattle.std.proofs.Common.{◌∙◌, ◌++◌, List, [], ◌∷◌, ap, ap₂, sym}
use Rattle.pc_desk_try.specs.declared.opening.Opening.{Opening}
use Rattle.pc_desk_try.specs.Openings.{is_open_cell, opening_of}
use Rattle.pc_desk_try.proofs.Room.{opened_in, opened_out}
use Rattle.pc_desk_try.proofs.opening.openings_of.Goals as goal
use Rattle.pc_desk_try.proofs.opening.openings_of.Goals.{then-is_open+in_ok-opening_of+in_ok-push, else-is_open}

pub loop-cell-preserved : goal.loop-cell-preserved
loop-cell-preserved c =
    let at = c.loop-cell in
    let constraints = c.args.constraints.now in
    let cells = c.args.cells.now in
    let here = c.loop-cell-test.true in
    let test = ap (is_open_cell constraints) (sym c.cell-item.is) ∙ sym c.is_open.ensures in
    elim c.if-is_open.branch [
      | then-is_open+in_ok-opening_of+in_ok-push w ↦ rw w.openings-is (
          let opening = w.in_ok-opening_of.ensures ∙ ap opening_of c.cell-item.is in
          w.in_ok-push.ensures.items ∙ ap₂ (λ (openings : List Opening) (next : Opening). openings ++ next ∷ []) at.invariant opening
          ∙ sym (opened_in constraints cells at.cell-index _ here (test ∙ w.if-is_open.true)))
      | else-is_open w ↦ rw w.openings-is (at.invariant ∙ sym (opened_out constraints cells at.cell-index c.cell-item.result here (test ∙ w.if-is_open.false)))
    ]
