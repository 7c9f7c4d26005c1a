-- A fault of a file names that file.
use Rattle.std.specs.Bool.{⊤}
use Rattle.std.proofs.Common.{◌≡◌, ℕ, ◌+◌, Bool, true, false, List, [], ◌∷◌, ◌++◌, length, Result, Ok, Err, if◌then◌else◌, nat_le, refl}
use Rattle.pc_model.specs.declared.fault.FileKind.{FileKind}
use Rattle.pc_model.specs.declared.fault.FileKind.TheVariants as kinds
use Rattle.pc_model.specs.declared.fault.Fault.{Fault}
use Rattle.pc_model.specs.declared.fault.Reason.{Reason}
use Rattle.pc_model.specs.declared.fault.Reason.TheVariants as reasons
use Rattle.pc_model.specs.declared.schema.Schema.{Schema}
use Rattle.pc_model.specs.declared.schema.Column.{Column}
use Rattle.pc_model.specs.declared.row.Row.{Row}
use Rattle.pc_model.specs.declared.constraint.Constraint.{Constraint}
use Rattle.pc_model.specs.Membership.{row_from}
use Rattle.pc_model.specs.Refusals.{◌>>=◌, fault_at, placed}
use Rattle.pc_model.specs.Texts.{text_of}
use Rattle.pc_schema.specs.SchemaFile.{column_of, column_at, columns_from, schema_from, schema_of}
use Rattle.pc_rows.specs.RowFile.{places_from, cells_of, cells_at, rows_from, rows_under, rows_of}
use Rattle.pc_rows.specs.Stored.{row_limit}
use Rattle.pc_lang.specs.Files.{as_limits, with_line_at, constraints_after, constraints_from, constraints_of, limits_of, lines_of, query_at}
use Rattle.pc_lang.specs.Quantiles.{quantile_at, quantile_from}
use Rattle.pc_session.specs.declared.line.Line.{Line}
use Rattle.pc_session.specs.Edited.{Held}
use Rattle.pc_script.specs.Script.{lines_from, script_of}
use Rattle.pc_files.specs.Outcome.{numbered_script, queries_from}

abbrev pub IsOf : {X : Type 0} → FileKind → Result X Fault → Type 0
IsOf file (Ok x) = ⊤
IsOf file (Err fault) = fault.file ≡ file

pub fault_of : {X : Type 0} (file : FileKind) (wanted : Result X Fault) (fault : Fault) → IsOf file wanted → wanted ≡ Err fault → fault.file ≡ file
fault_of file wanted fault is refuses = rw refuses at is

pub placed_of : {X : Type 0} (file : FileKind) (place : ℕ) (read : Result X Reason) → IsOf file (placed file place read)
placed_of file place (Ok x) = tt
placed_of file place (Err reason) = refl

pub then_of : {X Y : Type 0} (file : FileKind) (first : Result X Fault) (next : X → Result Y Fault) → IsOf file first → ((x : X) → IsOf file (next x)) → IsOf file (first >>= next)
then_of file (Ok x) next is later = later x
then_of file (Err fault) next is later = is

pub either_of : {X : Type 0} (file : FileKind) (test : Bool) (fault : Fault) (read : Result X Fault) → fault.file ≡ file → IsOf file read → IsOf file (if test then Err fault else read)
either_of file true fault read is other = is
either_of file false fault read is other = other

-- ---- the schema

columns_of_file : (before : List Column) (records : List (List (List ℕ))) → IsOf kinds.Schema (columns_from before records)
unfolding columns_from column_at
columns_of_file before [] = tt
columns_of_file before (fields ∷ rest) =
    then_of kinds.Schema (column_at before fields) (λ column. columns_from (before ++ column ∷ []) rest) (placed_of kinds.Schema (length before + 1) (column_of before fields)) (λ column. columns_of_file (before ++ column ∷ []) rest)

some_columns : (columns : List Column) → IsOf kinds.Schema (schema_from columns)
some_columns [] = refl
some_columns (column ∷ columns) = tt

pub schema_of_file : (bytes : List ℕ) → IsOf kinds.Schema (schema_of bytes)
unfolding schema_of
schema_of_file bytes =
    then_of kinds.Schema (placed kinds.Schema 0 (text_of bytes)) _ (placed_of kinds.Schema 0 (text_of bytes))
    (λ text. then_of kinds.Schema (columns_from [] _) schema_from (columns_of_file [] _) some_columns)

-- ---- the rows

cells_of_file : (columns : List Column) (places : List ℕ) (width count : ℕ) (fields : List (List ℕ)) → IsOf kinds.Rows (cells_at columns places width count fields)
unfolding cells_at
cells_of_file columns places width count fields =
    either_of kinds.Rows (nat_le row_limit count) (fault_at kinds.Rows (count + 2) reasons.TooMany) (placed kinds.Rows (count + 2) (cells_of columns places width fields)) refl
    (placed_of kinds.Rows (count + 2) (cells_of columns places width fields))

records_of_file : (columns : List Column) (places : List ℕ) (width : ℕ) (before : List Row) (records : List (List (List ℕ))) → IsOf kinds.Rows (rows_from columns places width before records)
unfolding rows_from
records_of_file columns places width before [] = tt
records_of_file columns places width before (fields ∷ rest) =
    then_of kinds.Rows (cells_at columns places width (length before) fields) (λ cells. rows_from columns places width (before ++ row_from cells ∷ []) rest)
    (cells_of_file columns places width (length before) fields) (λ cells. records_of_file columns places width (before ++ row_from cells ∷ []) rest)

pub table_of_file : (columns : List Column) (records : List (List (List ℕ))) → IsOf kinds.Rows (rows_under columns records)
unfolding rows_under
table_of_file columns [] = refl
table_of_file columns (header ∷ rest) =
    then_of kinds.Rows (placed kinds.Rows 1 (places_from [] columns header)) (λ places. rows_from columns places (length header) [] rest) (placed_of kinds.Rows 1 (places_from [] columns header))
    (λ places. records_of_file columns places (length header) [] rest)

pub rows_of_file : (schema : Schema) (bytes : List ℕ) → IsOf kinds.Rows (rows_of schema bytes)
unfolding rows_of
rows_of_file schema bytes =
    then_of kinds.Rows (placed kinds.Rows 0 (text_of bytes)) _ (placed_of kinds.Rows 0 (text_of bytes)) (λ text. table_of_file schema.columns _)

-- ---- the constraints, and the queries

lines_of_file : (schema : Schema) (place : ℕ) (before : List Constraint) (lines : List (List ℕ)) → IsOf kinds.Constraints (constraints_from schema place before lines)
unfolding constraints_from
lines_of_file schema place before [] = tt
lines_of_file schema place before (line ∷ rest) =
    then_of kinds.Constraints (with_line_at schema place before line) (λ after. constraints_from schema (place + 1) after rest) (placed_of kinds.Constraints place _)
    (λ after. lines_of_file schema (place + 1) after rest)

pub constraints_of_file : (schema : Schema) (bytes : List ℕ) → IsOf kinds.Constraints (constraints_of schema bytes)
unfolding constraints_after
constraints_of_file schema bytes =
    then_of kinds.Constraints (placed kinds.Constraints 0 (text_of bytes)) (λ text. constraints_from schema 1 [] (lines_of text)) (placed_of kinds.Constraints 0 (text_of bytes))
    (λ text. lines_of_file schema 1 [] (lines_of text))

limits_read : {X : Type 0} (read : Result X Fault) → IsOf kinds.Limits (as_limits read)
limits_read (Ok x) = tt
limits_read (Err fault) = refl

pub limits_of_file : (schema : Schema) (before : List Constraint) (bytes : List ℕ) → IsOf kinds.Limits (limits_of schema before bytes)
unfolding limits_of
limits_of_file schema before bytes = limits_read (constraints_after schema before bytes)

pub queries_of_words : (schema : Schema) (place : ℕ) (texts : List (List ℕ)) → IsOf kinds.Query (queries_from schema place texts)
unfolding queries_from
queries_of_words schema place [] = tt
queries_of_words schema place (text ∷ texts) =
    then_of kinds.Query (query_at schema place text) (λ query. (queries_from schema (place + 1) texts >>= λ queries. Ok (query ∷ queries))) (placed_of kinds.Query place _)
    (λ query. then_of kinds.Query (queries_from schema (place + 1) texts) (λ queries. Ok (query ∷ queries)) (queries_of_words schema (place + 1) texts) (λ queries. tt))

pub quantile_of_word : (schema : Schema) (place : ℕ) (text : List ℕ) → IsOf kinds.Query (quantile_at schema place text)
quantile_of_word schema place text = placed_of kinds.Query place (quantile_from schema text)

-- ---- the script

lines_of_script : (schema : Schema) (start : Held) (place : ℕ) (before : List Line) (texts : List (List ℕ)) → IsOf kinds.Script (lines_from schema start place before texts)
unfolding lines_from
lines_of_script schema start place before [] = tt
lines_of_script schema start place before (text ∷ rest) =
    then_of kinds.Script _ (λ after. lines_from schema start (place + 1) after rest) (placed_of kinds.Script place _) (λ after. lines_of_script schema start (place + 1) after rest)

script_of_file : (schema : Schema) (start : Held) (bytes : List ℕ) → IsOf kinds.Script (script_of schema start bytes)
unfolding script_of
script_of_file schema start bytes =
    then_of kinds.Script (placed kinds.Script 0 (text_of bytes)) (λ text. lines_from schema start 1 [] (lines_of text)) (placed_of kinds.Script 0 (text_of bytes))
    (λ text. lines_of_script schema start 1 [] (lines_of text))

pub numbered_of_file : (schema : Schema) (start : Held) (bytes : List ℕ) → IsOf kinds.Script (numbered_script schema start bytes)
numbered_of_file schema start bytes = then_of kinds.Script (script_of schema start bytes) _ (script_of_file schema start bytes) (λ lines. tt)
