use Rattle.std.proofs.Common.{◌≡◌, ◌++◌, take}
use Rattle.pc_desk_short.specs.ShortTexts.{next_claims_text}
use Rattle.pc_desk_short.proofs.text.put_next_claims.Given as goal

abbrev pub invariant-loop-claim : goal.invariant-loop-claim
invariant-loop-claim l = l.out.items ≡ l.fn.out.items ++ next_claims_text l.limit l.constraints (take l.claim-index l.claims)
