-- The keys of the chosen cells.
use Rattle.std.specs.Prelude.{◌≡◌, ℕ, ◌<◌, ℤ, pos, true, List, All, Contains, slice_index_or}
use Rattle.pc_cells.specs.declared.cells.Cell.{Cell}
use Rattle.pc_agg_search.specs.Targets.{cell_at}

-- a chosen cell before the place has the key
abbrev pub HasKeyBefore : List Cell → List ℤ → ℕ → ℤ → Type 0
HasKeyBefore cells keys place key = (i : ℕ) × (i < place) × ((cell_at cells i).chosen ≡ true) × (slice_index_or keys i (pos 0) ≡ key)

-- those of the chosen cells before a place
pub record AreKeysOf (cells : List Cell) (keys : List ℤ) (place : ℕ) (chosen : List ℤ) : Type 0 where
  pub from : All (HasKeyBefore cells keys place) chosen
  pub each : (i : ℕ) → i < place → (cell_at cells i).chosen ≡ true → Contains chosen (slice_index_or keys i (pos 0))
