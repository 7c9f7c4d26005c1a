use Rattle.pc_avg_ratio.proofs.BestSoFar.{IsSoFar}
use Rattle.pc_avg_ratio.proofs.best.highest_of.Given as goal

abbrev pub invariant-loop-place : goal.invariant-loop-place
invariant-loop-place l = IsSoFar l.fn.f l.fn.found l.place l.best
