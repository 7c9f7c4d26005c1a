-- How a shortage is written: what is needed, and what there is room for.
use Rattle.std.specs.Prelude.{codes, ℕ, ◌==◌, List, [], ◌∷◌, ◌++◌, Option, Some, None, decimal, flat_map, if◌then◌else◌, slice_get}
use Rattle.std.specs.List.{concat}
use Rattle.pc_model.specs.declared.constraint.Constraint.{Constraint}
use Rattle.pc_desk_try.specs.Written.{written_name}
use Rattle.pc_desk_table.specs.Texts.{shown}
use Rattle.pc_desk_short.specs.declared.claim.Claim.{Claim}
use Rattle.pc_desk_short.specs.declared.claim.Limit.{Limit}
use Rattle.pc_desk_short.specs.declared.claim.Limit.TheVariants.{Least, Most}
use Rattle.pc_desk_short.specs.declared.shortage.Shortage.{Shortage}

-- the name of the constraint at a place, if there is one, as the language writes it
abbrev pub name_in : Option Constraint → List ℕ
name_in None = []
name_in (Some constraint) = written_name constraint.when constraint.name

abbrev pub limit_word : Limit → List ℕ
limit_word Least = codes " least "
limit_word Most = codes " most "

-- nothing where it is once
unfoldable pub times_text : ℕ → List ℕ
times_text times = if times == 1 then [] else concat (codes " (" ∷ decimal times ∷ codes " times)" ∷ [])

unfoldable pub claim_text : Limit → List Constraint → Claim → List ℕ
claim_text limit constraints claim =
    concat (name_in (slice_get constraints claim.place) ∷ limit_word limit ∷ decimal claim.limit ∷ times_text claim.times ∷ [])

-- each with a comma and a space before it
unfoldable pub next_claims_text : Limit → List Constraint → List Claim → List ℕ
next_claims_text limit constraints claims = flat_map (λ claim. codes ", " ++ claim_text limit constraints claim) claims

abbrev pub claims_text : Limit → List Constraint → List Claim → List ℕ
claims_text limit constraints [] = codes "no constraint"
claims_text limit constraints (claim ∷ claims) = claim_text limit constraints claim ++ next_claims_text limit constraints claims

-- a title, a number of rows, and the claims that add up to it
unfoldable pub side_text : List ℕ → ℕ → Limit → List Constraint → List Claim → List ℕ
side_text title rows limit constraints claims =
    concat (title ∷ decimal rows ∷ codes ": " ∷ claims_text limit constraints claims ∷ [])

abbrev pub needs_text : List Constraint → Shortage → List ℕ
needs_text constraints shortage = shown (side_text (codes "needs ") shortage.needed Least constraints shortage.needs)

abbrev pub rooms_text : List Constraint → Shortage → List ℕ
rooms_text constraints shortage = shown (side_text (codes "room ") shortage.room Most constraints shortage.rooms)
