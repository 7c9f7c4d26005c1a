-- Why constraints allow no lost rows at all: some need more rows than others have room for.
use Rattle.std.specs.Prelude.{◌≡◌, ◌==◌, ◌&&◌, ℕ, ◌*◌, ◌^◌, ◌<◌, ℤ, pos, ◌≤ℤ◌, int_le, int_lt, nat_le, nat_lt, unsigned_abs, Bool, true, cond, List, [], ◌∷◌, Option, Some, None, if◌then◌else◌, flat_map, length, map, sum_by}
use Rattle.std.specs.List.{enumerate_from, list_all}
use Rattle.pc_model.specs.declared.constraint.Constraint.{Constraint}
use Rattle.pc_model.specs.declared.row.Row.{Row}
use Rattle.pc_model.specs.declared.schema.Schema.{Schema}
use Rattle.pc_model.specs.Aggregate.{int_sum}
use Rattle.pc_model.specs.Membership.{is_under}
use Rattle.pc_program_bound.specs.Parts.{taken}
use Rattle.pc_program_bound.specs.Sums.{int_at, sum_below}
use Rattle.pc_desk_try.specs.declared.opening.Opening.{Opening}
use Rattle.pc_desk_try.specs.Openings.{CanBeLost}
use Rattle.pc_desk_short.specs.declared.claim.Claim.{Claim}
use Rattle.pc_desk_short.specs.declared.claim.Limit.{Limit}
use Rattle.pc_desk_short.specs.declared.claim.Limit.TheVariants.{Least, Most}
use Rattle.pc_desk_short.specs.declared.shortage.Shortage.{Shortage}

-- ---- the weights over a row

-- the weight of the constraint at a place, where it speaks of the row
abbrev pub weight_at : List Constraint → List ℤ → Row → ℕ × Constraint → ℤ
weight_at constraints weights row entry = cond (is_under constraints entry.1 row) (int_at weights entry.0) (pos 0)

-- .. of all that speak of it
abbrev pub weight_of : List Constraint → List ℤ → Row → ℤ
weight_of constraints weights row = int_sum (map (weight_at constraints weights row) (enumerate_from 0 constraints))

-- ---- the claims of weights

-- a weight below 0 claims the least of its constraint, one above 0 the most
abbrev pub is_claimed : Limit → ℤ → Bool
is_claimed Least weight = int_lt weight (pos 0)
is_claimed Most weight = int_lt (pos 0) weight

abbrev pub limit_of : Limit → Constraint → ℕ
limit_of Least c = c.least
limit_of Most c = c.most

-- so many times as the weight is large
abbrev pub claim_of : Limit → ℕ → ℤ → Constraint → Claim
claim_of limit place weight c = record { place = place; times = unsigned_abs weight; limit = limit_of limit c }

abbrev pub claim_at : Limit → List ℤ → ℕ × Constraint → List Claim
claim_at limit weights entry =
    if is_claimed limit (int_at weights entry.0) then claim_of limit entry.0 (int_at weights entry.0) entry.1 ∷ [] else []

-- the claims of all constraints, in their order
abbrev pub claims_of : Limit → List Constraint → List ℤ → List Claim
claims_of limit constraints weights = flat_map (claim_at limit weights) (enumerate_from 0 constraints)

abbrev pub rows_of : Claim → ℕ
rows_of claim = claim.times * claim.limit

abbrev pub total_of : List Claim → ℕ
total_of claims = sum_by rows_of claims

-- ---- a shortage

-- the rows that the constraints of weights below 0 need, and those that the others have room for
abbrev pub needed : List Constraint → List ℤ → ℕ
needed constraints weights = total_of (claims_of Least constraints weights)

abbrev pub room : List Constraint → List ℤ → ℕ
room constraints weights = total_of (claims_of Most constraints weights)

-- Each row that can be lost takes as much room as it serves needs, and there is less room than is needed.
pub record IsShort (schema : Schema) (constraints : List Constraint) (weights : List ℤ) : Type 0 where
  pub served : (row : Row) → CanBeLost schema constraints row → pos 0 ≤ℤ weight_of constraints weights row
  pub short : room constraints weights < needed constraints weights

abbrev pub shortage_of : List Constraint → List ℤ → Shortage
shortage_of constraints weights = record {
  needed = needed constraints weights;
  room = room constraints weights;
  needs = claims_of Least constraints weights;
  rooms = claims_of Most constraints weights;
}

-- ---- the weights that are tried

-- at most so far from 0
abbrev pub weight_limit : ℕ
weight_limit = 2 ^ 60

abbrev pub is_small : ℤ → Bool
is_small weight = nat_le (unsigned_abs weight) weight_limit

-- as many weights as constraints, each of them small
abbrev pub are_sized : List Constraint → List ℤ → Bool
are_sized constraints weights = (length weights == length constraints) && list_all is_small weights

-- weights that are tried show no shortage
abbrev pub ShowNone : Schema → List Constraint → List ℤ → Type 0
ShowNone schema constraints weights = are_sized constraints weights ≡ true → IsShort schema constraints weights → ⊥

-- ---- as it is computed

-- the weights of the constraints of a class together
abbrev pub class_weight : ℕ → List ℤ → ℤ
class_weight mask weights = sum_below (length weights) (taken mask weights)

-- a class takes as much room as it serves needs
abbrev pub is_served : List ℤ → Opening → Bool
is_served weights opening = int_le (pos 0) (class_weight opening.mask weights)

abbrev pub short_by : List Constraint → List ℤ → Option Shortage
short_by constraints weights =
    cond (nat_lt (room constraints weights) (needed constraints weights)) (Some (shortage_of constraints weights)) None
