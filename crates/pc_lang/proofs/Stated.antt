-- The names of a set that are listed so far, and those that are left.
use Rattle.std.proofs.Common.{◌≡◌, ℕ, suc, ◌+◌, ◌<◌, ◌≤◌, List, [], ◌∷◌, ◌++◌, length, get_or, drop, remove, pos, refl, inl, inr, add-one, drop-cons, append_assoc, arith}
use Rattle.std.specs.Prelude.{if◌then◌else◌}
use Rattle.std.proofs.lemmas.Bool.{cases_Bool}
use Rattle.std.proofs.lemmas.List.{append-nil, drop_all}
use Rattle.pc_model.specs.Places.{is_place_of}
use Rattle.pc_lang_grammar.specs.declared.syntax.Claim.TheVariants as claims
use Rattle.pc_lang.specs.Canonical.{names_claim, names_from}

abbrev name_if : ℕ → ℕ → List ℕ → List (List ℕ)
name_if bits place name = if is_place_of bits (pos place) then name ∷ [] else []

names_from-cons : (bits place : ℕ) (name : List ℕ) (rest : List (List ℕ)) → names_from bits place (name ∷ rest) ≡ name_if bits place name ++ names_from bits (place + 1) rest
unfolding names_from
names_from-cons bits place name rest = elim (cases_Bool (is_place_of bits (pos place))) [ inl set ↦ rw set refl | inr unset ↦ rw unset refl ]

pub names_step : (stated : List (List ℕ)) (bits : ℕ) (names : List (List ℕ)) (i : ℕ) (name : List ℕ) → i < length names → (stated ++ name_if bits i (get_or names i name)) ++ names_from bits (i + 1) (drop (i + 1) names) ≡ stated ++ names_from bits i (drop i names)
names_step stated bits names i name inside =
    rw (drop-cons names i name inside, names_from-cons bits i (get_or names i name) (drop (suc i) names), add-one) (append_assoc stated (name_if bits i (get_or names i name)) _)

pub names_past : (stated : List (List ℕ)) (bits : ℕ) (names : List (List ℕ)) (i : ℕ) → length names ≤ i → stated ++ names_from bits i (drop i names) ≡ stated
names_past stated bits names i past = rw (drop_all i names past) (unfold names_from in append-nil stated)

pub ruleset names_steps = (names_step, names_past)

pub no_name : (names : List (List ℕ)) → length names ≡ 0 → names_claim names ≡ claims.Name []
no_name [] none = refl
no_name (name ∷ rest) none = absurd (omega arith)

pub one_name : (names : List (List ℕ)) (name : List ℕ) → 0 < length names → length (remove names 0) ≡ 0 → names_claim names ≡ claims.Name (get_or names 0 name)
one_name [] d some none = absurd (omega arith)
one_name (name ∷ []) d some none = refl
one_name (name ∷ other ∷ rest) d some none = absurd (omega arith)

pub more_names : (names : List (List ℕ)) (name : List ℕ) → 0 < length names → 0 < length (remove names 0) → names_claim names ≡ claims.Among (get_or names 0 name) (remove names 0)
more_names [] d some more = absurd (omega arith)
more_names (name ∷ []) d some more = absurd (omega arith)
more_names (name ∷ other ∷ rest) d some more = refl

pub ruleset steps = (no_name, one_name, more_names)
