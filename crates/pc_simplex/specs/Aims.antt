-- The gains as an objective row, and rows by which an objective row can be freed.
use Rattle.std.specs.Prelude.{◌≡◌, ◌<◌, ◌+◌, nat_lt, ℕ, ℤ, pos, neg_ℤ, Bool, false, cond, List, length, slice_index_or}
use Rattle.pc_program_bound.specs.declared.program.Program.{Program}
use Rattle.pc_program_bound.specs.Sums.{int_at}
use Rattle.pc_program_bound.specs.Allocation.{cells_of}
use Rattle.pc_simplex_tableau.specs.Tableau.{TableauRow}

-- the gain of a column: that of a cell, turned where the column is
abbrev pub gain_at : Program → List Bool → ℕ → ℤ
gain_at p turned k =
    cond (nat_lt k (cells_of p)) (cond (slice_index_or turned k false) (neg_ℤ (int_at p.gain k)) (int_at p.gain k)) (pos 0)

-- a row has a number for each entry of the objective row, and a value; its basic column has an entry
pub record IsOver (aim : List ℤ) (row : TableauRow) : Type 0 where
  pub numbers : length row.numbers ≡ length aim + 1
  pub basic : row.basic < length aim
