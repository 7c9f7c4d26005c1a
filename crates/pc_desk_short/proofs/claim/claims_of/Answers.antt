use Rattle.std.proofs.Common.{arith, ◌≡◌, ◌∙◌, ◌++◌, pos, List, [], ◌∷◌, ap, ap₂, get_or, sym, to_z, of_z}
use Rattle.std.specs.Int.{w128}
use Rattle.std.proofs.lemmas.Int.{ints}
use Rattle.pc_desk_short.specs.declared.claim.Claim.{Claim}
use Rattle.pc_desk_short.specs.Shortage.{claim_of, is_claimed}
use Rattle.pc_desk_short.proofs.Claims.{claim_in, claim_out}
use Rattle.pc_desk_short.proofs.claim.claims_of.Goals as goal
use Rattle.pc_desk_short.proofs.claim.claims_of.Goals.{then-is_claimed+in_ok-push, else-is_claimed}

pub loop-place-preserved : goal.loop-place-preserved
loop-place-preserved c =
    let at = c.loop-place in
    let here = c.loop-place-test.true in
    let constraints = c.args.constraints.now in
    let weights = c.args.weights.now in
    let same : to_z w128 (of_z w128 (get_or weights at.place (pos 0))) ≡ get_or weights at.place (pos 0) = omega (arith, ints) in
    let claimed = ap (is_claimed c.args.limit) (sym same) ∙ sym c.is_claimed.ensures in
    elim c.if-is_claimed.branch [
      | then-is_claimed+in_ok-push w ↦ rw w.found-is (
          let claim = w.claim_of.ensures ∙ ap₂ (claim_of c.args.limit at.place) same c.index-constraints-place.is in
          w.in_ok-push.ensures.items ∙ ap₂ (λ (found : List Claim) (next : Claim). found ++ next ∷ []) at.invariant claim
          ∙ sym (claim_in c.args.limit weights constraints at.place _ here (claimed ∙ w.if-is_claimed.true)))
      | else-is_claimed w ↦ rw w.found-is (at.invariant ∙ sym (claim_out c.args.limit weights constraints at.place c.index-constraints-place.result here (claimed ∙ w.if-is_claimed.false)))
    ]
