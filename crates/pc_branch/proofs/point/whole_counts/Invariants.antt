use Rattle.std.proofs.Common.{◌≡◌, take}
use Rattle.pc_branch.specs.Ends.{whole_counts}
use Rattle.pc_branch.proofs.point.whole_counts.Given as goal

abbrev pub invariant-loop-count : goal.invariant-loop-count
invariant-loop-count l = l.counts ≡ whole_counts (take l.count-index l.point)
