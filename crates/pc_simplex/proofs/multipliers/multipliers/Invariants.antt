use Rattle.pc_simplex.proofs.Slacks.{AreMultipliers}
use Rattle.pc_simplex.proofs.multipliers.multipliers.Given as goal

abbrev pub invariant-loop-slack : goal.invariant-loop-slack
invariant-loop-slack l = AreMultipliers l.p l.tableau l.slack l.by
