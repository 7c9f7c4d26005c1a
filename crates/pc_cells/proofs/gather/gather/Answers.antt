use Rattle.std.proofs.Common.{◌≡◌, ◌∷◌, [], length, ap, ◌∙◌, append_assoc, arith}
use Rattle.std.specs.Vec.Iter.{into_iter_items}
use Rattle.pc_cells.proofs.gather.gather.Goals as goal

pub loop-leaf-preserved : goal.loop-leaf-preserved
loop-leaf-preserved c =
    let at = c.loop-leaf in
    let steps : into_iter_items at.leaf-iterator ≡ c.in-Some.leaf ∷ into_iter_items c.next.new.self = c.in-Some.ensures.steps.0 in (
      append_assoc at.yielded (c.in-Some.leaf ∷ []) _ ∙ rw (← steps) at.invariant.0,
      c.in_ok-gathering.ensures at.yielded at.invariant.1,
      let was = at.invariant.2 in
          let gone = c.in-Some.ensures.steps.1 in
          let short = ap length steps in
          omega arith,
    )
