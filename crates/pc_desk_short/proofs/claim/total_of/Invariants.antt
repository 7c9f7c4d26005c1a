use Rattle.std.proofs.Common.{◌≡◌, take}
use Rattle.pc_desk_short.specs.Shortage.{total_of}
use Rattle.pc_desk_short.proofs.claim.total_of.Given as goal

abbrev pub invariant-loop-claim : goal.invariant-loop-claim
invariant-loop-claim l = l.total ≡ total_of (take l.claim-index l.claims)
