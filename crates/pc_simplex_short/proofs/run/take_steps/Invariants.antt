use Rattle.pc_simplex_short.proofs.Running.{IsRunFrom}
use Rattle.pc_simplex_short.proofs.run.take_steps.Given as goal

abbrev pub invariant-loop-enters : goal.invariant-loop-enters
invariant-loop-enters l = IsRunFrom l.setting l.fn.most l.fn.taken l.fn.start l.left l.steps l.tableau

abbrev pub decreases-loop-enters : goal.decreases-loop-enters
decreases-loop-enters l = l.left
