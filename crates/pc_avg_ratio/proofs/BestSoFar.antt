-- The counts of the greatest ratio among those before a place.
use Rattle.std.proofs.Common.{◌≡◌, ℕ, ◌+◌, ◌<◌, ◌≤◌, inl, inr, List, [], length, Option, Some, None, All, IfSome, MatchOption, sym, subst, ◌∙◌, arith}
use Rattle.std.specs.Prelude.{pos, ◌≤ℤ◌, ◌<ℤ◌, slice_index_or}
use Rattle.std.proofs.lemmas.Bool.{cases_eq}
use Rattle.std.proofs.lemmas.Int.{ints}
use Rattle.std.proofs.lemmas.List.{get_or_default}
use Rattle.std.proofs.lemmas.List.Elements.{All-from_get_or}
use Rattle.pc_proof.proofs.Fractions.{at_most_trans}
use Rattle.pc_avg_ratio.specs.declared.fractional.Fractional.{Fractional}
use Rattle.pc_avg_ratio.specs.Fractional.{rows_with, ratio_with}
use Rattle.pc_avg_ratio.specs.Best.{HasNoRows, IsNoHigher, IsHighestOf, IsHigher, IsNotHigher}

abbrev pub counts_at : List (List ℕ) → ℕ → List ℕ
counts_at found place = slice_index_or found place []

pub record IsBestBefore (f : Fractional) (found : List (List ℕ)) (place best : ℕ) : Type 0 where
  pub inside : best < length found
  pub some : pos 0 <ℤ rows_with f (counts_at found best)
  pub greatest : (i : ℕ) → i < place → IsNoHigher f (counts_at found best) (counts_at found i)

abbrev pub IsSoFar : Fractional → List (List ℕ) → ℕ → Option ℕ → Type 0
IsSoFar f found place None = (i : ℕ) → i < place → HasNoRows f (counts_at found i)
IsSoFar f found place (Some best) = IsBestBefore f found place best

module _ (f : Fractional) (found : List (List ℕ)) where
  up_to : (P : List ℕ → Type 0) (place : ℕ) → ((i : ℕ) → i < place → P (counts_at found i)) → P (counts_at found place) → (i : ℕ) → i < place + 1 → P (counts_at found i)
  up_to P place before here i lt = elim (cases_eq i place) [
    | inl e ↦ subst (λ k. P (counts_at found k)) (sym e) here
    | inr ne ↦ before i (omega (arith, lt, ne))
  ]

  pub so_far_start : IsSoFar f found 0 None
  so_far_start i lt = absurd (omega (arith, lt))

  pub so_far_stays : (best : Option ℕ) (place : ℕ) → IsSoFar f found place best → IsNotHigher f found best place → IsSoFar f found (place + 1) best
  so_far_stays None place before none = up_to (HasNoRows f) place before none
  so_far_stays (Some best) place before none = record {
    inside = before.inside;
    some = before.some;
    greatest = up_to (IsNoHigher f (counts_at found best)) place before.greatest none;
  }

  pub so_far_moves : (best : Option ℕ) (place : ℕ) → place < length found → IsSoFar f found place best → IsHigher f found best place → IsSoFar f found (place + 1) (Some place)
  so_far_moves None place inside before some = record {
    inside = inside;
    some = some;
    greatest = up_to (IsNoHigher f (counts_at found place)) place (λ i lt row. absurd (before i lt row)) (λ row. omega (arith, ints));
  }
  so_far_moves (Some best) place inside before higher = record {
    inside = inside;
    some = higher.0;
    greatest =
        let greater = higher.1 in
        up_to (IsNoHigher f (counts_at found place)) place
        (λ i lt row.
        at_most_trans (ratio_with f (counts_at found i)) (ratio_with f (counts_at found best)) (ratio_with f (counts_at found place)) row before.some higher.0
        (before.greatest i lt row) (omega (arith, ints, greater)))
        (λ row. omega (arith, ints));
  }

  pub so_far_whole : (best : Option ℕ) (place : ℕ) → length found ≤ place → IsSoFar f found place best → MatchOption best (All (HasNoRows f) found) (IsHighestOf f found)
  so_far_whole None place past before = All-from_get_or (HasNoRows f) found [] (λ i lt. before i (omega (arith, past, lt)))
  so_far_whole (Some best) place past before = record {
    inside = before.inside;
    some = before.some;
    greatest = All-from_get_or (IsNoHigher f (counts_at found best)) found [] (λ i lt. before.greatest i (omega (arith, past, lt)));
  }

  pub so_far_has_rows : (best : Option ℕ) (place : ℕ) → IsSoFar f found place best → IfSome best (λ before. (before < length found) × (pos 0 <ℤ rows_with f (counts_at found before)))
  so_far_has_rows None place before = tt
  so_far_has_rows (Some best) place before = (before.inside, before.some)

  -- ---- one place

  pub no_rows_there : (best : Option ℕ) (place : ℕ) → rows_with f (counts_at found place) ≤ℤ pos 0 → IsNotHigher f found best place
  no_rows_there None place none = λ some. omega (arith, ints, none, some)
  no_rows_there (Some best) place none = λ some. absurd (omega (arith, ints, none, some))

-- what is read at a place, whatever stands past the end
pub read_at : (found : List (List ℕ)) (i : ℕ) (x : List ℕ) → i < length found → x ≡ slice_index_or found i x → x ≡ counts_at found i
read_at found i x inside is = is ∙ get_or_default found i x [] inside
