use Rattle.std.proofs.Common.{◌≤◌}
use Rattle.pc_solver_trials.proofs.frontier.take_greatest.Given as goal

abbrev pub invariant-loop-place : goal.invariant-loop-place
invariant-loop-place l = l.greatest ≤ l.place
