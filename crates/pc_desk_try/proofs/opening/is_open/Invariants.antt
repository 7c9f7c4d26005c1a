use Rattle.std.proofs.Common.{◌≡◌, true, take}
use Rattle.pc_desk_try.specs.Openings.{is_open}
use Rattle.pc_desk_try.proofs.opening.is_open.Given as goal

abbrev pub invariant-loop-place : goal.invariant-loop-place
invariant-loop-place l = is_open (take l.place l.constraints) l.mask ≡ true
