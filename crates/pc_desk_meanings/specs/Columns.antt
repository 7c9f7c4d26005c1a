-- What is told of a column.
use Rattle.std.specs.Prelude.{ℕ, Bool, List, [], ◌∷◌, ◌++◌, codes, bytes_eq, map, position, slice_get, Option, Some, None}
use Rattle.std.specs.List.{concat}
use Rattle.pc_model.specs.declared.fault.Reason.{Reason}
use Rattle.pc_model.specs.declared.schema.Column.{Column}
use Rattle.pc_desk_records.specs.RowTexts.{kind_text}
use Rattle.pc_desk_records.specs.Shown.{choice_text, shown}

abbrev pub is_called : List ℕ → Column → Bool
is_called name column = bytes_eq column.name name

abbrev column_at : List Column → Option ℕ → Option Column
column_at columns (Some place) = slice_get columns place
column_at columns None = None

-- the column of this name
abbrev pub column_in : List Column → List ℕ → Option Column
column_in columns name = column_at columns (position (is_called name) columns)

unfoldable pub names_in : List Column → List (List ℕ)
names_in columns = map (λ (column : Column). column.name) columns

-- what it has, beside a value that is refused
abbrev pub known : Column → Reason → List ℕ → List ℕ
known column reason value = concat (shown column.name ∷ codes " has " ∷ kind_text column.kind reason value ∷ [])

-- the names of columns, and which of them is nearest to a name
unfoldable pub columns_near : List Column → List ℕ → List ℕ
columns_near columns name = choice_text (codes " columns") name (names_in columns)

unfoldable pub none_called : List ℕ → List ℕ
none_called name = concat (codes "no column is called " ∷ shown name ∷ codes ": the schema has " ∷ [])

abbrev pub unknown : List Column → List ℕ → List ℕ
unknown columns name = none_called name ++ columns_near columns name

abbrev pub told_of : List Column → List ℕ → Reason → List ℕ → Option Column → List ℕ
told_of columns name reason value (Some column) = known column reason value
told_of columns name reason value None = unknown columns name

-- .. or that there is none
abbrev pub of_column : List Column → List ℕ → Reason → List ℕ → List ℕ
of_column columns name reason value = told_of columns name reason value (column_in columns name)
