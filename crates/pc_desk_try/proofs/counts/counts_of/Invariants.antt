use Rattle.std.proofs.Common.{◌≡◌, take}
use Rattle.pc_desk_try.specs.Trials.{counts_of}
use Rattle.pc_desk_try.proofs.counts.counts_of.Given as goal

abbrev pub invariant-loop-place : goal.invariant-loop-place
invariant-loop-place l = l.counts ≡ counts_of l.constraints l.constraint (take l.place l.rows)
