-- What rows of cells gain towards an end, as the leaves of the cells alone say it.
use Rattle.std.specs.Prelude.{◌≡◌, ◌≤◌, ◌^◌, ℕ, ℤ, pos, nat_abs, cond, List, map, All, Option, None}
use Rattle.std.specs.List.{AllZip}
use Rattle.pc_model.specs.declared.row.Row.{Row}
use Rattle.pc_model.specs.declared.constraint.Constraint.{Constraint}
use Rattle.pc_program_bound.specs.declared.program.Program.{Program}
use Rattle.pc_program_bound.specs.CellPrograms.{program_with}
use Rattle.pc_cells.specs.declared.cells.Cell.{Cell}
use Rattle.pc_cells.specs.Found.{class_of_cell}
pub use Rattle.pc_cells.specs.Found.{cell_at}
use Rattle.pc_agg_search.specs.declared.extreme.Extreme.{Extreme}
use Rattle.pc_agg_search.specs.declared.extreme.Extreme.TheVariants.{Low}
use Rattle.pc_agg_search.specs.Ends.{signed}
use Rattle.pc_agg_search.specs.FirstRows.{number_in, IsFirstRow}

-- the program of cells with a gain for each
abbrev pub cell_program : List Constraint → List Cell → List ℤ → Program
cell_program constraints cells gains = program_with constraints (map class_of_cell cells) gains

-- the same gain in each chosen cell
abbrev pub chosen_gain : List Cell → ℤ → ℕ → ℤ
chosen_gain cells gain i = cond (cell_at cells i).chosen gain (pos 0)

-- what a row of the cell gains
abbrev pub gain_in : Option ℕ → Extreme → Cell → ℤ
gain_in column extreme cell = cond cell.chosen (signed extreme (number_in column extreme cell.leaves)) (pos 0)

-- the row of the cell's leaves that is shown
abbrev pub IsPickIn : Option ℕ → Extreme → Cell → Row → Type 0
IsPickIn column extreme cell row = IsFirstRow column extreme cell.leaves row

-- the lowest row of the first leaf of each cell
abbrev pub AreRowsIn : List Cell → List Row → Type 0
AreRowsIn cells picks = AllZip (IsPickIn None Low) cells picks

-- what a row of the cell gains, and such a row
pub record IsTarget (column : Option ℕ) (extreme : Extreme) (cell : Cell) (gain : ℤ) (pick : Row) : Type 0 where
  pub gained : gain ≡ gain_in column extreme cell
  pub picked : IsPickIn column extreme cell pick
  pub small : nat_abs gain ≤ 2 ^ 63

-- the same of each cell, in order
pub record AreTargets (column : Option ℕ) (extreme : Extreme) (cells : List Cell) (gains : List ℤ) (picks : List Row) : Type 0 where
  pub gained : gains ≡ map (gain_in column extreme) cells
  pub picked : AllZip (IsPickIn column extreme) cells picks
  pub small : All (λ gain. nat_abs gain ≤ 2 ^ 63) gains
