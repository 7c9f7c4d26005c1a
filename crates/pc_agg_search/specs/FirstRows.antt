-- The row of a cell that is shown: the lowest one of the first leaf that has the number of an end.
use Rattle.std.specs.Prelude.{◌≡◌, ◌<◌, ℕ, ℤ, pos, Bool, true, false, List, length, Option, Some, None, IfSome, slice_get}
use Rattle.pc_model.specs.declared.row.Row.{Row}
use Rattle.pc_model.specs.declared.region.Region.{Region}
use Rattle.pc_model.specs.Membership.{has}
use Rattle.pc_model.specs.Cells.{least_low, greatest_high}
use Rattle.pc_cells.specs.Ends.{IsFirstAt}
use Rattle.pc_cells.specs.Found.{leaf_at}
use Rattle.pc_cells.specs.Lowest.{IsLowestBut}
use Rattle.pc_agg_search.specs.declared.extreme.Extreme.{Extreme}
use Rattle.pc_agg_search.specs.declared.extreme.Extreme.TheVariants.{Low, High}

-- what a chosen row of the leaves adds at an end: its number in the column, or 1 where rows are counted
abbrev pub number_in : Option ℕ → Extreme → List Region → ℤ
number_in None extreme leaves = pos 1
number_in (Some column) Low leaves = least_low column leaves
number_in (Some column) High leaves = greatest_high column leaves

abbrev pub is_low : Extreme → Bool
is_low Low = true
is_low High = false

-- no leaf before this one has that number as its end; where rows are counted, none is before it
abbrev pub IsFirstLeaf : Option ℕ → Extreme → List Region → ℕ → Type 0
IsFirstLeaf None extreme leaves leaf = leaf ≡ 0
IsFirstLeaf (Some column) extreme leaves leaf = IsFirstAt (is_low extreme) column leaves leaf (number_in (Some column) extreme leaves)

-- the row has that number, and else the least numbers of that leaf
pub record IsFirstRow (column : Option ℕ) (extreme : Extreme) (leaves : List Region) (row : Row) : Type 0 where
  pub leaf : ℕ
  pub there : leaf < length leaves
  pub held : has (leaf_at leaves leaf) row ≡ true
  pub number : IfSome column (λ named. slice_get row.cells named ≡ Some (number_in column extreme leaves))
  pub first : IsFirstLeaf column extreme leaves leaf
  pub lowest : IsLowestBut column (leaf_at leaves leaf) row
