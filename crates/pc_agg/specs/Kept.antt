-- The keys at which an end can stand.
use Rattle.std.specs.Prelude.{◌≡◌, ℕ, ◌<◌, ◌⊎◌, ℤ, pos, int_lt, Bool, true, List, All, Any, Contains, Option, Some, None, IfSome, slice_index_or}
use Rattle.pc_cells.specs.declared.cells.Cell.{Cell}
use Rattle.pc_agg.specs.declared.ladder.Test.{Test}
use Rattle.pc_agg.specs.declared.ladder.Test.TheVariants.{Reach, Avoid}
use Rattle.pc_agg_search.specs.Targets.{cell_at}

abbrev pub is_beyond : Test → ℤ → ℤ → Bool
is_beyond Reach observed key = int_lt observed key
is_beyond Avoid observed key = int_lt key observed

-- above what was observed, or below it
abbrev pub passes : Test → Option ℤ → ℤ → Bool
passes test None key = true
passes test (Some observed) key = is_beyond test observed key

-- a chosen cell before the place has the key
abbrev pub HasKey : List Cell → List ℤ → ℕ → ℤ → Type 0
HasKey cells keys place key = (i : ℕ) × (i < place) × ((cell_at cells i).chosen ≡ true) × (slice_index_or keys i (pos 0) ≡ key)

-- the keys that pass, of the chosen cells before a place
pub record AreKept (cells : List Cell) (keys : List ℤ) (test : Test) (seen : Option ℤ) (place : ℕ) (kept : List ℤ) : Type 0 where
  pub from : All (λ key. HasKey cells keys place key × (passes test seen key ≡ true)) kept
  pub each : (i : ℕ) → i < place → (cell_at cells i).chosen ≡ true → passes test seen (slice_index_or keys i (pos 0)) ≡ true → Contains kept (slice_index_or keys i (pos 0))

-- the keys that pass, and what was observed: the keys are those of the items that are chosen
pub record AreStandable {X : Type 0} (is_chosen : X → Bool) (key : X → ℤ) (items : List X) (test : Test) (seen : Option ℤ) (numbers : List ℤ) : Type 0 where
  pub from : All (λ number. (Any (λ item. (is_chosen item ≡ true) × (key item ≡ number)) items × (passes test seen number ≡ true)) ⊎ (seen ≡ Some number)) numbers
  pub each : All (λ item. is_chosen item ≡ true → passes test seen (key item) ≡ true → Contains numbers (key item)) items
  pub own : IfSome seen (Contains numbers)
