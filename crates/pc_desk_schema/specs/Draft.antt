-- What is drafted for a file with a header, and what is said of it.
use Rattle.std.specs.Prelude.{ℕ, ◌+◌, ◌==◌, ◌&&◌, ◌||◌, Bool, true, false, List, [], ◌∷◌, ◌++◌, length, fold, nat_le, Option, Some, None, Result, Ok, Err, if◌then◌else◌}
use Rattle.std.specs.List.{list_all, list_any}
use Rattle.std.specs.Str.{bytes_eq}
use Rattle.csv.specs.Reading.{default_config, records, strip_bom}
use Rattle.pc_model.specs.declared.fault.FileKind.TheVariants as files
use Rattle.pc_model.specs.declared.fault.Fault.{Fault}
use Rattle.pc_model.specs.declared.fault.Reason.TheVariants as reasons
use Rattle.pc_model.specs.Refusals.{◌>>=◌, fault_at, placed}
use Rattle.pc_model.specs.Texts.{text_of}
use Rattle.pc_rows.specs.RowFile.{rows_under}
use Rattle.pc_desk_schema.specs.declared.column.Fitted.{Fitted}
use Rattle.pc_desk_schema.specs.declared.draft.Draft.{Draft}
use Rattle.pc_desk_schema.specs.declared.found.Found.{Found}
use Rattle.pc_desk_schema.specs.declared.said.Odd.{Odd}
use Rattle.pc_desk_schema.specs.declared.said.Remark.{Remark}
use Rattle.pc_desk_schema.specs.declared.said.Said.{Said}
use Rattle.pc_desk_schema.specs.declared.said.Said.TheVariants as saids
use Rattle.pc_desk_schema.specs.Columns.{column_of}

-- the greatest number of columns
abbrev pub column_limit : ℕ
column_limit = 12

-- the columns that are asked for: all of the header, or those that are named
abbrev pub wanted : List (List ℕ) → List (List ℕ) → List (List ℕ)
wanted names header = if length names == 0 then header else names

abbrev pub is_field_of : List (List ℕ) → List ℕ → Bool
is_field_of header name = list_any (bytes_eq name) header

-- ---- name by name

abbrev pub nothing_found : Found
nothing_found = record { count = 0; columns = []; remarks = []; further = 0 }

-- said of a name before which so many stand
abbrev pub remark_on : ℕ → List ℕ → Said → Remark
remark_on before name what = record { number = before + 1; name = name; said = what }

-- a column is drafted although a 0 is lost
abbrev pub zero_remarks : ℕ → List ℕ → Option Odd → List Remark
zero_remarks before name None = []
zero_remarks before name (Some odd) = remark_on before name (saids.Zero odd) ∷ []

-- one more column that fits and finds no room
abbrev pub with_further : Found → Found
with_further found = record { count = found.count + 1; columns = found.columns; remarks = found.remarks; further = found.further + 1 }

-- one more column that is drafted
abbrev pub with_drafted : Found → Fitted → Found
with_drafted found fitted = record {
  count = found.count + 1;
  columns = found.columns ++ fitted.column ∷ [];
  remarks = found.remarks ++ zero_remarks found.count fitted.column.name fitted.zero;
  further = found.further;
}

-- one more column that fits: a schema has room for so many
unfoldable pub with_column : Found → Fitted → Found
with_column found fitted = if nat_le column_limit (length found.columns) then with_further found else with_drafted found fitted

-- one more that is left out
abbrev pub with_left : Found → List ℕ → Said → Found
with_left found name what =
    record { count = found.count + 1; columns = found.columns; remarks = found.remarks ++ remark_on found.count name what ∷ []; further = found.further }

abbrev pub with_outcome : Found → List ℕ → Result Fitted Said → Found
with_outcome found name (Ok fitted) = with_column found fitted
with_outcome found name (Err what) = with_left found name what

unfoldable pub with_next : List (List ℕ) → List (List (List ℕ)) → Found → List ℕ → Found
with_next header rows found name = with_outcome found name (column_of header rows found.columns name)

-- what is found for the names, one after the other
abbrev pub found_for : List (List ℕ) → List (List (List ℕ)) → Found → List (List ℕ) → Found
found_for header rows found names = fold (with_next header rows) found names

-- ---- the header

abbrev pub parts_fields : ℕ → Bool
parts_fields byte = (byte == 59) || (byte == 9)

-- the one field of a header in which a semicolon or a tab stands
abbrev pub odd_header : List (List ℕ) → Option (List ℕ)
odd_header (field ∷ []) = if list_any parts_fields field then Some field else None
odd_header other = None

-- ---- the draft

abbrev pub draft_from : List (List ℕ) → Found → Draft
draft_from header found =
    record { schema = record { columns = found.columns }; remarks = found.remarks; further = found.further; header = odd_header header }

abbrev pub draft_over : List (List ℕ) → List (List (List ℕ)) → List (List ℕ) → Draft
draft_over header rows names = draft_from header (found_for header rows nothing_found (wanted names header))

abbrev pub drafted_under : List (List ℕ) → List (List (List ℕ)) → Result Draft Fault
drafted_under names [] = Err (fault_at files.Rows 1 reasons.NoHeader)
drafted_under names (header ∷ rows) =
    if list_all (is_field_of header) names then Ok (draft_over header rows names) else Err (fault_at files.Rows 1 reasons.MissingColumn)

-- The draft for the columns of these names, or for all where there are none. The file is refused where it is as a row file
-- whatever its columns: its text, its header, and the number of rows and of the fields of each; and where its header lacks a
-- name.
unfoldable pub drafted_of : List ℕ → List (List ℕ) → Result Draft Fault
drafted_of bytes names = do
  text ← placed files.Rows 0 (text_of bytes)
  rows ← rows_under [] (records default_config (strip_bom text))
  drafted_under names (records default_config (strip_bom text))

-- ---- whether all is drafted

-- said of a column that is drafted
abbrev pub is_aside : Said → Bool
is_aside (saids.Zero odd) = true
is_aside other = false

abbrev pub spares : Remark → Bool
spares remark = is_aside remark.said

-- no column is left out
abbrev pub is_whole : Draft → Bool
is_whole draft = list_all spares draft.remarks && (draft.further == 0)
