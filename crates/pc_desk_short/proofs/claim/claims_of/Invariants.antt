use Rattle.std.proofs.Common.{◌≡◌, take}
use Rattle.pc_desk_short.specs.Shortage.{claims_of}
use Rattle.pc_desk_short.proofs.claim.claims_of.Given as goal

abbrev pub invariant-loop-place : goal.invariant-loop-place
invariant-loop-place l = l.found.items ≡ claims_of l.limit (take l.place l.constraints) l.weights
