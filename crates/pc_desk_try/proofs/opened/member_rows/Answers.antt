use Rattle.std.proofs.Common.{◌∙◌, ◌++◌, ℕ, List, [], ◌∷◌, ap, ap₂, sym}
use Rattle.pc_model.specs.Places.{has_bit}
use Rattle.pc_desk_table.specs.declared.sheet.Cell.{Cell}
use Rattle.pc_desk_try.specs.Opened.{member_cells}
use Rattle.pc_desk_try.proofs.Members.{member_in, member_out}
use Rattle.pc_desk_try.proofs.opened.member_rows.Goals as goal
use Rattle.pc_desk_try.proofs.opened.member_rows.Goals.{then-has_bit+in_ok-member_cells+in_ok-push, else-has_bit}

pub loop-place-preserved : goal.loop-place-preserved
loop-place-preserved c =
    let at = c.loop-place in
    let here = c.loop-place-test.true in
    let constraints = c.args.constraints.now in
    let query = c.args.query.now in
    let opening = c.args.opening.now in
    let bit = ap (λ (mask : ℕ). has_bit mask at.place) (sym c.from.ensures) ∙ sym c.has_bit.ensures in
    elim c.if-has_bit.branch [
      | then-has_bit+in_ok-member_cells+in_ok-push w ↦ rw w.rows-is (
          let cells = w.in_ok-member_cells.ensures ∙ ap (member_cells opening.boxes query) c.index-constraints-place.is in
          w.in_ok-push.ensures.items ∙ ap₂ (λ (rows : List (List Cell)) (next : List Cell). rows ++ next ∷ []) at.invariant cells
          ∙ sym (member_in opening query constraints at.place _ here (bit ∙ w.if-has_bit.true)))
      | else-has_bit w ↦ rw w.rows-is (at.invariant ∙ sym (member_out opening query constraints at.place c.index-constraints-place.result here (bit ∙ w.if-has_bit.false)))
    ]
