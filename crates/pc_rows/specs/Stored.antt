-- The rows that stand in one list of numbers.
use Rattle.std.specs.Prelude.{◌≡◌, ◌<◌, ◌≤◌, ◌*◌, ◌^◌, ℕ, zero, suc, ℤ, List, [], ◌∷◌, length, take, drop, slice_index_or}
use Rattle.pc_model.specs.declared.row.Row.{Row}
use Rattle.pc_model.specs.Membership.{row_from as row}

-- so many rows of so many numbers each, one after the other
unfoldable pub rows_in : ℕ → ℕ → List ℤ → List Row
rows_in width zero cells = []
rows_in width (suc count) cells = row (take width cells) ∷ rows_in width count (drop width cells)

-- the row at a place, or one of no numbers past the end
abbrev pub row_at : List Row → ℕ → Row
row_at rows place = slice_index_or rows place (row [])

-- the greatest number of rows
abbrev pub row_limit : ℕ
row_limit = 1000000

pub record AreStored (width count : ℕ) (cells : List ℤ) : Type 0 where
  pub full : length cells ≡ count * width
  pub few : count ≤ row_limit
  pub short : length cells < 2 ^ 64
