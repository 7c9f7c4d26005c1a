-- What the rows of cells add to how far numbers pass a number, by the keys of the cells.
use Rattle.std.specs.Prelude.{◌≤◌, ℕ, ℤ, pos, ◌+ℤ◌, ◌-ℤ◌, ◌*ℤ◌, int_lt, cond, List, slice_index_or}
use Rattle.pc_cells.specs.declared.cells.Cell.{Cell}
use Rattle.pc_agg_search.specs.declared.extreme.Extreme.{Extreme}
use Rattle.pc_agg_search.specs.declared.extreme.Extreme.TheVariants.{Low, High}
use Rattle.pc_agg_search.specs.Targets.{cell_at}
use Rattle.pc_lang.specs.declared.quantile.Quantile.{Quantile}
use Rattle.pc_quantile.specs.Sums.{weight}

pub record IsShare (asked : Quantile) : Type 0 where
  pub some : 1 ≤ asked.p
  pub most : asked.p ≤ asked.q
  pub few : asked.q ≤ 1000

-- a row that can pass the number, and one that cannot
abbrev pub outer_gain : Quantile → Extreme → ℤ
outer_gain asked Low = (weight *ℤ (pos asked.q -ℤ pos asked.p)) +ℤ pos 1
outer_gain asked High = pos asked.p

abbrev pub inner_gain : Quantile → Extreme → ℤ
inner_gain asked Low = pos 1 -ℤ (weight *ℤ pos asked.p)
inner_gain asked High = pos asked.p -ℤ pos asked.q

-- what a row of the cell at a place adds at most: none where the cell is not chosen
abbrev pub passing_gain : Quantile → Extreme → List Cell → List ℤ → ℤ → ℕ → ℤ
passing_gain asked extreme cells keys key i =
    cond (cell_at cells i).chosen (cond (int_lt key (slice_index_or keys i (pos 0))) (outer_gain asked extreme) (inner_gain asked extreme)) (pos 0)
