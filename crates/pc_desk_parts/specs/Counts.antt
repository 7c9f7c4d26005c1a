-- How many lost rows are under each constraint, and which rows have a next number.
use Rattle.std.specs.Prelude.{ℕ, ◌<◌, List, length, map, Option, IfSome}
use Rattle.pc_model.specs.declared.constraint.Constraint.{Constraint}
use Rattle.pc_model.specs.declared.row.Row.{Row}
use Rattle.pc_model.specs.Aggregate.{number_at}
use Rattle.pc_model.specs.Possible.{count_of}
use Rattle.pc_model.specs.WellFormed.{IsSmall}

-- how many of the rows are under each constraint
abbrev pub counts_of : List Constraint → List Row → List ℕ
counts_of constraints rows = map (λ (c : Constraint). count_of constraints c rows) constraints

-- the row has a number in the column that is far from the ends of the numbers of cells
pub record HasRoom (row : Row) (column : ℕ) : Type 0 where
  pub inside : column < length row.cells
  pub small : IsSmall (number_at row column)

abbrev pub MayStep : Option ℕ → Row → Type 0
MayStep column row = IfSome column (HasRoom row)
