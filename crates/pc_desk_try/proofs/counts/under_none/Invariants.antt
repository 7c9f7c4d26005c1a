use Rattle.std.proofs.Common.{◌≡◌, take}
use Rattle.pc_desk_try.specs.Trials.{under_none}
use Rattle.pc_desk_try.proofs.counts.under_none.Given as goal

abbrev pub invariant-loop-place : goal.invariant-loop-place
invariant-loop-place l = l.count ≡ under_none l.constraints (take l.place l.rows)
