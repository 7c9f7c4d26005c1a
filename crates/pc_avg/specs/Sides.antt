-- What an end of an average is sought over: the greatest ratio of a sum to a number of rows, where the numbers of a low end are turned.
use Rattle.std.specs.Prelude.{◌≡◌, ◌<◌, ◌≤◌, ◌^◌, ◌⊎◌, ℤ, neg_ℤ, nat_abs, ◌≤ℤ◌, true, All, Any, Option, Some, None, IfSome, option_map}
use Rattle.std.specs.List.{AllZip}
use Rattle.pc_model.specs.declared.query.Folded.{Folded}
use Rattle.pc_model.specs.Cells.{Class}
use Rattle.pc_proof.specs.Setting.{Setting, cells, on_chosen, program_for}
use Rattle.pc_agg_search.specs.declared.extreme.Extreme.{Extreme}
use Rattle.pc_agg_search.specs.declared.extreme.Extreme.TheVariants.{Low, High}
use Rattle.pc_agg_search.specs.Ends.{signed}
use Rattle.pc_agg_search.specs.Keys.{key_of, IsAtEnd}
use Rattle.pc_agg_search.specs.Wants.{most_chosen}
use Rattle.pc_avg_ratio.specs.Fractional.{IsFractional}
use Rattle.pc_avg.specs.declared.sides.Side.{Side}

-- the outermost number of the observed rows at an end, turned at a low end
abbrev pub observed_key : Folded → Extreme → Option ℤ
observed_key seen Low = option_map neg_ℤ seen.least
observed_key seen High = seen.greatest

-- a chosen cell has the key
abbrev pub IsChosenKey : Setting → Extreme → ℤ → Type 0
IsChosenKey u extreme key = Any (λ (class : Class). (class.chosen ≡ true) × (key_of u extreme class ≡ key)) (cells u)

-- the key of a chosen cell or of an observed row, and none of them is greater
pub record IsOutermostKey (u : Setting) (extreme : Extreme) (observed : Option ℤ) (key : ℤ) : Type 0 where
  pub of_cell : IsChosenKey u extreme key ⊎ (observed ≡ Some key)
  pub chosen : All (λ (class : Class). class.chosen ≡ true → key_of u extreme class ≤ℤ key) (cells u)
  pub seen : IfSome observed (λ m. m ≤ℤ key)
  pub small : nat_abs key ≤ 2 ^ 63

-- the outermost key, where some cell is chosen or a row was observed
abbrev pub IsOutermost : Setting → Extreme → Option ℤ → Option ℤ → Type 0
IsOutermost u extreme observed (Some key) = IsOutermostKey u extreme observed key
IsOutermost u extreme observed None = (observed ≡ None) × All (λ (class : Class). class.chosen ≡ true → ⊥) (cells u)

-- the fraction of a side, a row of each cell with the cell's number at the end, and the outermost key
pub record IsSide (u : Setting) (seen : Folded) (extreme : Extreme) (side : Side) : Type 0 where
  pub fractional : IsFractional side.fraction
  pub rows_are : side.fraction.rows ≡ most_chosen u
  pub sums_are : side.fraction.sums ≡ program_for u (on_chosen (key_of u extreme))
  pub count_is : side.fraction.count ≡ seen.count
  pub sum_is : 0 < seen.count → side.fraction.sum ≡ signed extreme seen.sum
  pub picked : AllZip (IsAtEnd u extreme) (cells u) side.picks
  pub outermost : IsOutermost u extreme (observed_key seen extreme) side.outermost
