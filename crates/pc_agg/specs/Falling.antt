-- Numbers in order, each once, greatest first.
use Rattle.std.specs.Prelude.{◌≡◌, ◌==◌, ℕ, suc, ◌-◌, ◌<◌, ◌≤◌, ℤ, pos, ◌<ℤ◌, ◌≤ℤ◌, Bool, false, cond, List, [], length, All, Contains, slice_index_or}
use Rattle.std.specs.Ordering.{int_eq}

abbrev pub IsFalling : List ℤ → Type 0
IsFalling numbers = (place : ℕ) → suc place < length numbers → slice_index_or numbers (suc place) (pos 0) <ℤ slice_index_or numbers place (pos 0)

abbrev pub IsRising : List ℤ → Type 0
IsRising numbers = (place : ℕ) → suc place < length numbers → slice_index_or numbers place (pos 0) ≤ℤ slice_index_or numbers (suc place) (pos 0)

-- the same numbers, falling
pub record IsFallingOf (numbers falling : List ℤ) : Type 0 where
  pub falls : IsFalling falling
  pub from : All (Contains numbers) falling
  pub each : All (Contains falling) numbers

abbrev pub ends_in : List ℤ → ℤ → Bool
ends_in numbers number = cond (length numbers == 0) false (int_eq (slice_index_or numbers (length numbers - 1) (pos 0)) number)

-- the same of the numbers from a place on, of which the first is the last that falls
pub record IsFallingFrom (rising : List ℤ) (place : ℕ) (falling : List ℤ) : Type 0 where
  pub falls : IsFalling falling
  pub from : All (Contains rising) falling
  pub each : (i : ℕ) → place ≤ i → i < length rising → Contains falling (slice_index_or rising i (pos 0))
  pub last : place < length rising → (0 < length falling) × (slice_index_or falling (length falling - 1) (pos 0) ≡ slice_index_or rising place (pos 0))
  pub none : length rising ≤ place → falling ≡ []
