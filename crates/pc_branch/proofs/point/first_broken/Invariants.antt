use Rattle.pc_branch.specs.Visits.{AreWholeBelow}
use Rattle.pc_branch.proofs.point.first_broken.Given as goal

abbrev pub invariant-loop-cell : goal.invariant-loop-cell
invariant-loop-cell l = AreWholeBelow l.point l.cell
