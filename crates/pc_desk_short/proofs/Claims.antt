-- Claims as far as a loop has come, and that small weights claim few rows.
use Rattle.std.proofs.Common.{◌≡◌, ◌∙◌, ℕ, suc, ◌+◌, ◌*◌, ◌^◌, ◌<◌, ◌≤◌, ℤ, Bool, true, false, List, [], ◌∷◌, ◌++◌, All, flat_map, get_or, length, take, unsigned_abs, if◌then◌else◌, ap, arith, append-nil}
use Rattle.std.specs.List.{enumerate_from}
use Rattle.std.proofs.lemmas.Nat.{mul-le}
use Rattle.std.proofs.lemmas.List.Concat.{flat_map-append}
use Rattle.std.proofs.lemmas.List.Elements.{All-head, All-tail}
use Rattle.std.proofs.lemmas.List.Sums.{sum_by-append}
use Rattle.pc_model.specs.declared.constraint.Constraint.{Constraint}
use Rattle.pc_model.specs.declared.schema.Schema.{Schema}
use Rattle.pc_model.specs.Accepted.{AreConstraints, frequency_limit}
use Rattle.pc_program_bound.specs.Sums.{int_at}
use Rattle.pc_desk_table.proofs.Enumerated.{enumerate_more}
use Rattle.pc_desk_short.proofs.Weights.{sized_parts, small_weights}
use Rattle.pc_desk_short.specs.declared.claim.Claim.{Claim}
use Rattle.pc_desk_short.specs.declared.claim.Limit.{Limit}
use Rattle.pc_desk_short.specs.declared.claim.Limit.TheVariants.{Least, Most}
use Rattle.pc_desk_short.specs.Shortage.{are_sized, claim_at, claim_of, is_claimed, claims_of, limit_of, rows_of, total_of, weight_limit}

module _ (limit : Limit) (weights : List ℤ) (constraints : List Constraint) (place : ℕ) (c : Constraint) (here : place < length constraints) where
  claim_more : claims_of limit (take (place + 1) constraints) weights ≡ claims_of limit (take place constraints) weights ++ claim_at limit weights (place, get_or constraints place c)
  claim_more =
      ap (flat_map (claim_at limit weights)) (enumerate_more constraints place c here)
      ∙ flat_map-append (claim_at limit weights) (enumerate_from 0 (take place constraints)) ((place, get_or constraints place c) ∷ [])
      ∙ ap (λ (found : List Claim). claims_of limit (take place constraints) weights ++ found) (append-nil (claim_at limit weights (place, get_or constraints place c)))

  abbrev after : Bool → List Claim
  after test = claims_of limit (take place constraints) weights ++ (if test then claim_of limit place (int_at weights place) (get_or constraints place c) ∷ [] else [])

  pub claim_in : is_claimed limit (int_at weights place) ≡ true
      → claims_of limit (take (place + 1) constraints) weights ≡ claims_of limit (take place constraints) weights ++ claim_of limit place (int_at weights place) (get_or constraints place c) ∷ []
  claim_in is = claim_more ∙ ap after is

  pub claim_out : is_claimed limit (int_at weights place) ≡ false → claims_of limit (take (place + 1) constraints) weights ≡ claims_of limit (take place constraints) weights
  claim_out is = claim_more ∙ ap after is ∙ append-nil (claims_of limit (take place constraints) weights)

-- ---- how many rows

-- the most that one claim is of
abbrev pub claim_limit : ℕ
claim_limit = weight_limit * frequency_limit

few_rows : (limit : Limit) (place : ℕ) (w : ℤ) (c : Constraint) → unsigned_abs w ≤ weight_limit → limit_of limit c ≤ frequency_limit → (test : Bool)
    → total_of (if test then claim_of limit place w c ∷ [] else []) ≤ claim_limit
few_rows limit place w c small few true = let most = mul-le (unsigned_abs w) (limit_of limit c) weight_limit frequency_limit small few in omega (arith, most)
few_rows limit place w c small few false = omega arith

few_each : (limit : Limit) (weights : List ℤ) (place : ℕ) (cs : List Constraint) → ((k : ℕ) → unsigned_abs (int_at weights k) ≤ weight_limit)
    → All (λ (c : Constraint). limit_of limit c ≤ frequency_limit) cs → total_of (flat_map (claim_at limit weights) (enumerate_from place cs)) ≤ length cs * claim_limit
few_each limit weights place [] small all = omega arith
few_each limit weights place (c ∷ cs) small all =
    let first = few_rows limit place (int_at weights place) c (small place) (All-head (λ (other : Constraint). limit_of limit other ≤ frequency_limit) c cs all) (is_claimed limit (int_at weights place)) in
    let later = few_each limit weights (place + 1) cs small (All-tail (λ (other : Constraint). limit_of limit other ≤ frequency_limit) c cs all) in
    rw (sum_by-append rows_of (claim_at limit weights (place, c)) (flat_map (claim_at limit weights) (enumerate_from (place + 1) cs)))
    (once_more (length cs) (total_of (claim_at limit weights (place, c))) (total_of (flat_map (claim_at limit weights) (enumerate_from (place + 1) cs))) first later)
  where
    once_more : (n a b : ℕ) → a ≤ claim_limit → b ≤ n * claim_limit → a + b ≤ suc n * claim_limit
    once_more n a b h k = omega (arith, h, k)

all_limits : (limit : Limit) (schema : Schema) (constraints : List Constraint) → AreConstraints schema constraints → All (λ (c : Constraint). limit_of limit c ≤ frequency_limit) constraints
all_limits Least schema constraints accepted = λ place d here.
    let c = get_or constraints place d in
    let ordered = (accepted.servable place d here).ordered in
    let small = accepted.small place d here in
    below c.least c.most ordered small
  where
    below : (least most : ℕ) → least ≤ most → most ≤ frequency_limit → least ≤ frequency_limit
    below least most h k = omega (arith, h, k)
all_limits Most schema constraints accepted = accepted.small

pub totals_fit : (limit : Limit) (schema : Schema) (constraints : List Constraint) (weights : List ℤ) → AreConstraints schema constraints → are_sized constraints weights ≡ true
    → total_of (claims_of limit constraints weights) < 2 ^ 128
totals_fit limit schema constraints weights accepted sized =
    let all = few_each limit weights 0 constraints (small_weights weights (sized_parts constraints weights sized).1) (all_limits limit schema constraints accepted) in
    fits (length constraints) (total_of (claims_of limit constraints weights)) accepted.few all
  where
    fits : (n total : ℕ) → n ≤ 20 → total ≤ n * claim_limit → total < 2 ^ 128
    fits n total few within = omega (arith, few, within)
