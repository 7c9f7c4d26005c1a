use Rattle.std.proofs.Common.{take}
use Rattle.pc_desk_limit.specs.Limiting.{NoneIsOutside}
use Rattle.pc_desk_limit.proofs.limiting.outside_place.Given as goal

abbrev pub invariant-loop-place : goal.invariant-loop-place
invariant-loop-place l = NoneIsOutside (take l.place l.constraints)
