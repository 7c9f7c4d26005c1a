-- What a statement asks of a table.
use Rattle.std.specs.Prelude.{ℕ, List, [], ◌∷◌, ◌++◌, codes, map}
use Rattle.pc_model.specs.declared.constraint.Constraint.{Constraint}
use Rattle.pc_model.specs.declared.constraint.When.{When}
use Rattle.pc_model.specs.declared.constraint.When.TheVariants.{Boxes, Outside}
use Rattle.pc_model.specs.declared.schema.Column.{Column}
use Rattle.pc_model.specs.declared.schema.Schema.{Schema}
use Rattle.pc_desk_sql.specs.Tests.{Clause, NoneOf, Test, box_of, known, under_of}

-- A line of the answer: how many rows meet all of `under`, how many all of `broken`, and the limits of the former.
pub record Line : Type 0 where
  pub name : List ℕ
  pub under : List Clause
  pub broken : List Clause
  pub least : ℕ
  pub most : ℕ

-- The first line has the number of all rows, and of those that fail a test of `own`; then one line after another.
pub record Statement : Type 0 where
  pub columns : List Column
  pub own : List Test
  pub lines : List Line

-- the word of the language stands in the place of a name
abbrev pub name_of : When → List ℕ → List ℕ
name_of (Boxes area) name = name
name_of Outside name = codes "outside"

-- under the constraint, and not among its values
abbrev pub broken_of : List Column → List Constraint → Constraint → List Clause
broken_of columns constraints c = under_of columns constraints c.when ++ NoneOf (box_of columns c.values ∷ []) ∷ []

abbrev pub line_of : List Column → List Constraint → Constraint → Line
line_of columns constraints c = record {
  name = name_of c.when c.name;
  under = under_of columns constraints c.when;
  broken = broken_of columns constraints c;
  least = c.least;
  most = c.most;
}

-- a line for each constraint, in their order
abbrev pub lines_of : List Column → List Constraint → List Line
lines_of columns constraints = map (line_of columns constraints) constraints

abbrev pub statement_over : List Column → List Constraint → Statement
statement_over columns constraints = record {
  columns = columns;
  own = known columns;
  lines = lines_of columns constraints;
}

abbrev pub statement_of : Schema → List Constraint → Statement
statement_of schema constraints = statement_over schema.columns constraints
