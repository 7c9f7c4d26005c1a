-- Which conditions hold of the values of a row, as in SQL, where None is what is unknown; and what a statement answers.
use Rattle.std.specs.Prelude.{ℕ, ◌&&◌, Bool, true, false, not, List, [], ◌∷◌, Option, Some, None, is_none, count_by, length, map}
use Rattle.std.specs.List.{list_any}
use Rattle.std.specs.Str.{bytes_eq}
use Rattle.pc_model.specs.declared.constraint.Constraint.{Constraint}
use Rattle.pc_model.specs.declared.row.Row.{Row}
use Rattle.pc_model.specs.declared.schema.Column.{Column}
use Rattle.pc_model.specs.declared.schema.Schema.{Schema}
use Rattle.pc_model.specs.Membership.{has, is_between, is_under}
use Rattle.pc_desk_sql.specs.Statement.{Line, Statement}
use Rattle.pc_desk_sql.specs.Tests.{Among, Clause, Known, Missing, NoneOf, OneOf, Test, Within}
use Rattle.pc_desk_sql.specs.Values.{Fields, Name, Null, Number, Value, cells_in, rows_in, values_of}

-- ---- what is true, false or unknown

abbrev pub both : Option Bool → Option Bool → Option Bool
both (Some true) other = other
both (Some false) other = Some false
both None (Some true) = None
both None (Some false) = Some false
both None None = None

abbrev pub either : Option Bool → Option Bool → Option Bool
either (Some true) other = Some true
either (Some false) other = other
either None (Some true) = Some true
either None (Some false) = None
either None None = None

abbrev pub turned : Option Bool → Option Bool
turned (Some held) = Some (not held)
turned None = None

-- a row is counted where a condition is true, and neither where it is false nor where it is unknown
abbrev pub is_true : Option Bool → Bool
is_true (Some held) = held
is_true None = false

-- ---- conditions

-- of a NULL it is unknown whether it is a number or a name
abbrev pub passes : Test → Value → Option Bool
passes Known Null = Some false
passes Known (Number n) = Some true
passes Known (Name text) = Some true
passes (Within low high) Null = None
passes (Within low high) (Number n) = Some (is_between low high n)
passes (Within low high) (Name text) = None
passes (Among names) Null = None
passes (Among names) (Number n) = None
passes (Among names) (Name text) = Some (list_any (bytes_eq text) names)
passes Missing Null = Some true
passes Missing (Number n) = Some false
passes Missing (Name text) = Some false

-- all the tests of a box, each of the value of its column
unfoldable pub box_holds : List Test → List Value → Option Bool
box_holds [] values = Some true
box_holds (test ∷ tests) [] = both (passes test Null) (box_holds tests [])
box_holds (test ∷ tests) (value ∷ values) = both (passes test value) (box_holds tests values)

unfoldable pub some_hold : List (List Test) → List Value → Option Bool
some_hold [] values = Some false
some_hold (box ∷ boxes) values = either (box_holds box values) (some_hold boxes values)

abbrev pub clause_holds : Clause → List Value → Option Bool
clause_holds (OneOf boxes) values = some_hold boxes values
clause_holds (NoneOf boxes) values = turned (some_hold boxes values)

unfoldable pub holds : List Clause → List Value → Option Bool
holds [] values = Some true
holds (clause ∷ clauses) values = both (clause_holds clause values) (holds clauses values)

-- ---- what a statement answers

-- the numbers under "rows" and "broken"
pub record Counted : Type 0 where
  pub rows : ℕ
  pub broken : ℕ

-- whether a condition is true of a row of a table
abbrev pub is_counted : List Column → List Clause → Fields → Bool
is_counted columns clauses fields = is_true (holds clauses (values_of columns fields))

-- whether some field of a row is no value of its column, as the first line tells it
abbrev pub is_told : List Column → List Test → Fields → Bool
is_told columns own fields = not (is_true (box_holds own (values_of columns fields)))

abbrev pub line_counts : List Column → List Fields → Line → Counted
line_counts columns table line = record {
  rows = count_by (is_counted columns line.under) table;
  broken = count_by (is_counted columns line.broken) table;
}

abbrev pub answers : Statement → List Fields → List Counted
answers statement table =
    record { rows = length table; broken = count_by (is_told statement.columns statement.own) table }
    ∷ map (line_counts statement.columns table) statement.lines

-- ---- what it is to answer

-- a row of the schema that a constraint speaks of and its values do not have
abbrev pub breaks : List Constraint → Constraint → Row → Bool
breaks constraints c row = is_under constraints c row && not (has c.values row)

-- how many rows are under a constraint, and how many of these break it
abbrev pub counted : List Constraint → List Row → Constraint → Counted
counted constraints rows c = record {
  rows = count_by (is_under constraints c) rows;
  broken = count_by (breaks constraints c) rows;
}

-- whether some field of a row is no value of its column
abbrev pub is_foreign : Schema → Fields → Bool
is_foreign schema fields = is_none (cells_in schema.columns fields)

-- all rows, and those that are no rows of the schema; and for each constraint those of the rows of the schema
abbrev pub wanted : Schema → List Constraint → List Fields → List Counted
wanted schema constraints table =
    record { rows = length table; broken = count_by (is_foreign schema) table }
    ∷ map (counted constraints (rows_in schema table)) constraints
