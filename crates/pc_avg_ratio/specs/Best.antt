-- The counts of the greatest ratio among those that were found.
use Rattle.std.specs.Prelude.{ℕ, ◌<◌, pos, ◌*ℤ◌, ◌≤ℤ◌, ◌<ℤ◌, int_lt, Bool, List, [], length, All, Option, Some, None, slice_index_or}
use Rattle.pc_avg_ratio.specs.declared.fractional.Fractional.{Fractional}
use Rattle.pc_avg_ratio.specs.Fractional.{rows_with, sum_with}

abbrev pub HasNoRows : Fractional → List ℕ → Type 0
HasNoRows f counts = pos 0 <ℤ rows_with f counts → ⊥

-- counts at a place that have a row
abbrev pub HasRowsAt : Fractional → List (List ℕ) → ℕ → Type 0
HasRowsAt f found place = (place < length found) × (pos 0 <ℤ rows_with f (slice_index_or found place []))

-- the ratio of counts is greater than that of others, where both have rows
abbrev pub is_above : Fractional → List ℕ → List ℕ → Bool
is_above f counts others = int_lt (sum_with f others *ℤ rows_with f counts) (sum_with f counts *ℤ rows_with f others)

-- the ratio of the first counts is no greater, where these have rows
abbrev pub IsNoHigher : Fractional → List ℕ → List ℕ → Type 0
IsNoHigher f best counts = pos 0 <ℤ rows_with f counts → (sum_with f counts *ℤ rows_with f best) ≤ℤ (sum_with f best *ℤ rows_with f counts)

pub record IsHighestOf (f : Fractional) (found : List (List ℕ)) (place : ℕ) : Type 0 where
  pub inside : place < length found
  pub some : pos 0 <ℤ rows_with f (slice_index_or found place [])
  pub greatest : All (IsNoHigher f (slice_index_or found place [])) found

-- ---- one place more

-- the counts at a place have a row, and a greater ratio than the best ones so far
abbrev pub IsHigher : Fractional → List (List ℕ) → Option ℕ → ℕ → Type 0
IsHigher f found None place = pos 0 <ℤ rows_with f (slice_index_or found place [])
IsHigher f found (Some before) place =
    (pos 0 <ℤ rows_with f (slice_index_or found place []))
    × ((sum_with f (slice_index_or found before []) *ℤ rows_with f (slice_index_or found place [])) <ℤ (sum_with f (slice_index_or found place []) *ℤ rows_with f (slice_index_or found before [])))

abbrev pub IsNotHigher : Fractional → List (List ℕ) → Option ℕ → ℕ → Type 0
IsNotHigher f found None place = HasNoRows f (slice_index_or found place [])
IsNotHigher f found (Some before) place = IsNoHigher f (slice_index_or found before []) (slice_index_or found place [])
