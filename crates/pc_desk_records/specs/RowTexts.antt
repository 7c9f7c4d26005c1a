-- What is told of a row file that is refused.
use Rattle.std.specs.Prelude.{ℕ, ℤ, ◌+◌, ◌==◌, List, [], ◌∷◌, ◌++◌, length, codes, decimal, slice_get, Option, Some, None, Result, Ok, Err, if◌then◌else◌}
use Rattle.std.specs.List.{concat}
use Rattle.csv.specs.Reading.{default_config, records, strip_bom}
use Rattle.pc_num.specs.Put.{scaled_text}
use Rattle.pc_model.specs.declared.fault.Fault.{Fault}
use Rattle.pc_model.specs.declared.fault.Reason.{Reason}
use Rattle.pc_model.specs.declared.fault.Reason.TheVariants as reasons
use Rattle.pc_model.specs.declared.schema.Kind.{Kind}
use Rattle.pc_model.specs.declared.schema.Kind.TheVariants.{Int, Dec, Cat}
use Rattle.pc_model.specs.declared.schema.Column.{Column}
use Rattle.pc_model.specs.declared.schema.Schema.{Schema}
use Rattle.pc_model.specs.Texts.{text_of}
use Rattle.pc_schema.specs.SchemaFile.{schema_of}
use Rattle.pc_rows.specs.declared.halt.Halt.{Halt}
use Rattle.pc_rows.specs.declared.halt.Halt.TheVariants as halts
use Rattle.pc_rows.specs.declared.tell.RowsTold.{RowsTold}
use Rattle.pc_rows.specs.Told.{told_of}
use Rattle.pc_desk_records.specs.Beginnings.{front_text}
use Rattle.pc_desk_records.specs.Shown.{choice_text, counted, shown, shown_after}

abbrev pub line_end : List ℕ
line_end = 10 ∷ []

-- ---- a field

-- from the least to the greatest number
unfoldable pub span_text : ℕ → ℤ → ℤ → List ℕ
span_text scale low high = concat (scaled_text low scale ∷ codes ".." ∷ scaled_text high scale ∷ [])

-- what the schema has where no number stands, where one has too many decimals, and where one is out of its span
abbrev pub number_for : Reason → List ℕ → ℕ → ℤ → ℤ → List ℕ
number_for reasons.BadNumber kind scale low high = concat (kind ∷ span_text scale low high ∷ codes ": a number is to stand there" ∷ [])
number_for reasons.TooManyDecimals kind scale low high = concat (decimal scale ∷ codes " decimals at most: " ∷ kind ∷ span_text scale low high ∷ [])
number_for other kind scale low high = span_text scale low high

-- .. and where nothing stands
abbrev pub number_text : Reason → List ℕ → List ℕ → ℕ → ℤ → ℤ → List ℕ
number_text reason field kind scale low high = if length field == 0 then span_text scale low high else number_for reason kind scale low high

-- what the schema has for a column
abbrev pub kind_text : Kind → Reason → List ℕ → List ℕ
kind_text (Int low high) reason field = number_text reason field (codes "int ") 0 low high
kind_text (Dec scale low high) reason field = number_text reason field (codes "dec ") scale low high
kind_text (Cat names) reason field = choice_text (codes " names") field names

abbrev pub column_text : Option Column → Reason → List ℕ → List ℕ
column_text None reason field = []
column_text (Some column) reason field =
    concat (shown column.name ∷ shown_after (codes " = ") field ∷ codes ", and the schema has " ∷ kind_text column.kind reason field ∷ [])

-- ---- a header

abbrev pub name_for : Reason → List ℕ → List (List ℕ) → List ℕ
name_for reasons.MissingColumn name header =
    concat (codes "no field is " ∷ shown name ∷ codes ", which the schema has; the header has " ∷ choice_text (codes " fields") name header ∷ [])
name_for other name header = concat (shown name ∷ codes " stands twice; the header has " ∷ choice_text (codes " fields") [] header ∷ [])

abbrev pub name_text : Option Column → Reason → List (List ℕ) → List ℕ
name_text None reason header = []
name_text (Some column) reason header = name_for reason column.name header

-- ---- a record

abbrev pub width_text : ℕ → ℕ → List ℕ
width_text fields header = concat (counted fields (codes " field") (codes " fields") ∷ codes ", and the header has " ∷ decimal header ∷ [])

abbrev pub first_of : List (List (List ℕ)) → List (List ℕ)
first_of [] = []
first_of (header ∷ rest) = header

-- the first record of a text, or no fields
unfoldable pub header_of : List ℕ → List (List ℕ)
header_of text = first_of (records default_config (strip_bom text))

abbrev pub halt_text : List Column → List ℕ → List ℕ → Halt → List ℕ
halt_text columns text field (halts.Width fields header) = width_text fields header
halt_text columns text field (halts.Field column place reason) = column_text (slice_get columns column) reason field
halt_text columns text field (halts.Name column reason) = name_text (slice_get columns column) reason (header_of text)

abbrev pub further_text : ℕ → List ℕ
further_text further =
    if further == 0 then []
    else concat (codes "  " ∷ counted further (codes " more record is refused") (codes " more records are refused") ∷ line_end ∷ [])

unfoldable pub record_text : List Column → List ℕ → RowsTold → List ℕ
record_text columns text told =
    concat (front_text told.place text ∷ halt_text columns text told.field told.halt ∷ line_end ∷ further_text told.further ∷ [])

abbrev pub text_in : Result (List ℕ) Reason → List ℕ
text_in (Ok text) = text
text_in (Err reason) = []

abbrev pub told_text : List Column → List ℕ → Option RowsTold → List ℕ
told_text columns text None = []
told_text columns text (Some told) = record_text columns text told

abbrev pub under_schema : Result Schema Fault → List ℕ → List ℕ
under_schema (Ok schema) rows = told_text schema.columns (text_in (text_of rows)) (told_of schema rows)
under_schema (Err fault) rows = []

-- what stands behind the number of the record for which a row file is refused: the line on which it begins, what its reader
-- stopped at, what the schema has there, and how many more records are refused
unfoldable pub rows_text : List ℕ → List ℕ → List ℕ
rows_text schema rows = under_schema (schema_of schema) rows
