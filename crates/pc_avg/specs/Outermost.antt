-- The greatest of the keys of chosen cells, and of what was observed.
use Rattle.std.specs.Prelude.{◌≡◌, ℕ, ◌<◌, ◌⊎◌, ℤ, pos, ◌≤ℤ◌, true, List, Option, Some, None, IfSome, slice_index_or}
use Rattle.std.specs.Int.{int_max}
use Rattle.pc_cells.specs.declared.cells.Cell.{Cell}
use Rattle.pc_agg_search.specs.Targets.{cell_at}
use Rattle.pc_agg.specs.Kept.{HasKey}

abbrev pub greater : Option ℤ → ℤ → Option ℤ
greater None key = Some key
greater (Some greatest) key = Some (int_max greatest key)

-- of the chosen cells before a place, and of what was observed
pub record IsGreatest (cells : List Cell) (keys : List ℤ) (place : ℕ) (observed : Option ℤ) (key : ℤ) : Type 0 where
  pub there : HasKey cells keys place key ⊎ (observed ≡ Some key)
  pub chosen : (i : ℕ) → i < place → (cell_at cells i).chosen ≡ true → slice_index_or keys i (pos 0) ≤ℤ key
  pub seen : IfSome observed (λ m. m ≤ℤ key)

abbrev pub IsGreatestKey : List Cell → List ℤ → ℕ → Option ℤ → Option ℤ → Type 0
IsGreatestKey cells keys place observed (Some key) = IsGreatest cells keys place observed key
IsGreatestKey cells keys place observed None = (observed ≡ None) × ((i : ℕ) → i < place → (cell_at cells i).chosen ≡ true → ⊥)
