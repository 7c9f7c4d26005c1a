use Rattle.std.proofs.Common.{◌∙◌, ◌≤◌, sym, arith}
use Rattle.pc_gen.proofs.DrawnConstraints.{constraints_step, constraints_end}
use Rattle.pc_gen.proofs.constraint.draw_constraints.Goals as goal

pub loop-number-preserved : goal.loop-number-preserved
loop-number-preserved c =
    rw c.in_ok-push.ensures.ok (constraints_step _ _ _ _ _ _ c.loop-number-test.true c.in_ok-constraint.ensures.constraint c.in_ok-constraint.ensures.state ∙ c.loop-number.invariant)

pub returns : goal.returns
returns c =
    let past : 8 ≤ c.loop-number.number = omega (arith, c.loop-number-test.false) in
    sym (constraints_end _ _ _ _ past) ∙ c.loop-number.invariant
