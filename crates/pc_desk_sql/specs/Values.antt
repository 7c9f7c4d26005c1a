-- What a row of a table has in the columns of a schema.
use Rattle.std.specs.Prelude.{ℕ, ℤ, List, [], ◌∷◌, Option, Some, None, Result, Ok, Err}
use Rattle.std.specs.List.{filter_map}
use Rattle.std.specs.Option.{option_map}
use Rattle.pc_model.specs.declared.fault.Reason.{Reason}
use Rattle.pc_model.specs.declared.row.Row.{Row}
use Rattle.pc_model.specs.declared.schema.Column.{Column}
use Rattle.pc_model.specs.declared.schema.Kind.{Kind}
use Rattle.pc_model.specs.declared.schema.Kind.TheVariants.{Int, Dec, Cat}
use Rattle.pc_model.specs.declared.schema.Schema.{Schema}
use Rattle.pc_model.specs.Membership.{row_from}
use Rattle.pc_rows.specs.RowFile.{cell_of}

-- for each column the text of its field, unless that is NULL
abbrev pub Fields : Type 0
Fields = List (Option (List ℕ))

-- ---- as a file of rows is read

abbrev pub number_if : Result ℤ Reason → Option ℤ
number_if (Ok number) = Some number
number_if (Err reason) = None

-- the number that a reader of rows has for the field, if it takes it
abbrev pub cell_in : Kind → Option (List ℕ) → Option ℤ
cell_in kind None = None
cell_in kind (Some text) = number_if (cell_of kind text)

abbrev pub with_cell : Option ℤ → Option (List ℤ) → Option (List ℤ)
with_cell None cells = None
with_cell (Some cell) None = None
with_cell (Some cell) (Some cells) = Some (cell ∷ cells)

-- the numbers of a row, where each of its fields is a value of its column
unfoldable pub cells_in : List Column → Fields → Option (List ℤ)
cells_in [] fields = Some []
cells_in (column ∷ columns) [] = None
cells_in (column ∷ columns) (field ∷ fields) = with_cell (cell_in column.kind field) (cells_in columns fields)

abbrev pub row_in : Schema → Fields → Option Row
row_in schema fields = option_map row_from (cells_in schema.columns fields)

-- those rows of a table that are rows of the schema
abbrev pub rows_in : Schema → List Fields → List Row
rows_in schema table = filter_map (row_in schema) table

-- ---- as the statement reads it

-- NULL, a number in units of the last place of its column, or a text
pub data Value : Type 0 where
  Null : Value
  Number : ℤ → Value
  Name : List ℕ → Value

-- of a column of numbers the number, and of one of names the name itself
abbrev pub read_as : Kind → List ℕ → ℤ → Value
read_as (Int low high) text cell = Number cell
read_as (Dec scale low high) text cell = Number cell
read_as (Cat names) text cell = Name text

abbrev pub value_if : Kind → List ℕ → Option ℤ → Value
value_if kind text None = Null
value_if kind text (Some cell) = read_as kind text cell

-- a field that is no value of its column is NULL
abbrev pub value_of : Kind → Option (List ℕ) → Value
value_of kind None = Null
value_of kind (Some text) = value_if kind text (cell_in kind (Some text))

unfoldable pub values_of : List Column → Fields → List Value
values_of [] fields = []
values_of (column ∷ columns) [] = Null ∷ values_of columns []
values_of (column ∷ columns) (field ∷ fields) = value_of column.kind field ∷ values_of columns fields
