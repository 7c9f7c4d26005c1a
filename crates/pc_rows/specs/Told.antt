-- Which field of a row file keeps it from being read.
use Rattle.std.specs.Prelude.{◌≡◌, ℕ, ◌+◌, ◌==◌, not, Bool, true, false, ℤ, List, [], ◌∷◌, length, drop, get_or, count_by, Option, Some, None, Result, Ok, Err, IsOk, nat_le, if◌then◌else◌}
use Rattle.std.specs.Bool.{⊤}
use Rattle.std.specs.Result.{is_err}
use Rattle.csv.specs.Reading.{default_config, records, strip_bom}
use Rattle.pc_model.specs.declared.fault.FileKind.TheVariants as files
use Rattle.pc_model.specs.declared.fault.Fault.{Fault}
use Rattle.pc_model.specs.declared.fault.Reason.{Reason}
use Rattle.pc_model.specs.declared.fault.Reason.TheVariants as reasons
use Rattle.pc_model.specs.declared.row.Row.{Row}
use Rattle.pc_model.specs.declared.schema.Column.{Column}
use Rattle.pc_model.specs.declared.schema.Schema.{Schema}
use Rattle.pc_model.specs.Refusals.{fault_at}
use Rattle.pc_model.specs.Texts.{text_of}
use Rattle.pc_records.specs.Fields.{field}
use Rattle.pc_rows.specs.declared.halt.Halt.{Halt}
use Rattle.pc_rows.specs.declared.halt.Halt.TheVariants as halts
use Rattle.pc_rows.specs.declared.tell.RowsTold.{RowsTold}
use Rattle.pc_rows.specs.RowFile.{cell_of, cells_of, place_in, places_from}
use Rattle.pc_rows.specs.Stored.{row_limit}

abbrev pub reason_of : Halt → Reason
reason_of (halts.Width fields header) = reasons.FieldCount
reason_of (halts.Field column place reason) = reason
reason_of (halts.Name column reason) = reason

-- a record is read where nothing halts its reader, and else refused for the reason of what does
abbrev pub HaltsAs : {A : Type 0} → Option Halt → Result A Reason → Type 0
HaltsAs None wanted = IsOk wanted
HaltsAs (Some halt) wanted = wanted ≡ Err (reason_of halt)

-- the field of a column halts the reader where it gives no number
abbrev pub at_field : ℕ → ℕ → Result ℤ Reason → Option Halt → Option Halt
at_field column place (Ok number) later = later
at_field column place (Err reason) later = Some (halts.Field column place reason)

-- the first field of a record that halts its reader, in the columns from one on
unfoldable pub fields_halt : ℕ → List Column → List ℕ → List (List ℕ) → Option Halt
fields_halt at [] places fields = None
fields_halt at (column ∷ columns) places fields =
    at_field at (get_or places 0 0) (cell_of column.kind (field fields (get_or places 0 0))) (fields_halt (at + 1) columns (drop 1 places) fields)

-- what halts the reader of a record: its width, or else a field
unfoldable pub record_halt : List Column → List ℕ → ℕ → List (List ℕ) → Option Halt
record_halt columns places width fields =
    if not (length fields == width) then Some (halts.Width (length fields) width) else fields_halt 0 columns places fields

abbrev pub at_name : ℕ → Result ℕ Reason → Option Halt → Option Halt
at_name column (Ok place) later = later
at_name column (Err reason) later = Some (halts.Name column reason)

-- the first column from one on that does not stand in the header once
unfoldable pub names_halt : ℕ → List Column → List (List ℕ) → Option Halt
names_halt at [] header = None
names_halt at (column ∷ columns) header = at_name at (place_in column.name header) (names_halt (at + 1) columns header)

-- the field at which a reader halts, or no bytes
abbrev pub halt_field : Halt → List (List ℕ) → List ℕ
halt_field (halts.Width count header) fields = []
halt_field (halts.Field column place reason) fields = field fields place
halt_field (halts.Name column reason) fields = []

-- how many records give no row
abbrev pub refused_in : List Column → List ℕ → ℕ → List (List (List ℕ)) → ℕ
refused_in columns places width table = count_by (λ fields. is_err (cells_of columns places width fields)) table

abbrev pub told_at : ℕ → List (List ℕ) → ℕ → Option Halt → Option RowsTold → Option RowsTold
told_at count fields further None later = later
told_at count fields further (Some halt) later =
    Some (record { place = count + 2; halt = halt; field = halt_field halt fields; further = further })

-- the first of these records that is refused, after so many rows; the header is record 1
unfoldable pub told_from : List Column → List ℕ → ℕ → ℕ → List (List (List ℕ)) → Option RowsTold
told_from columns places width count [] = None
told_from columns places width count (fields ∷ rest) =
    if nat_le row_limit count then None
    else told_at count fields (refused_in columns places width rest) (record_halt columns places width fields) (told_from columns places width (count + 1) rest)

abbrev pub header_told : Option Halt → Option RowsTold
header_told None = None
header_told (Some halt) = Some (record { place = 1; halt = halt; field = []; further = 0 })

-- .. where the columns have these places
abbrev pub told_behind : List Column → List (List ℕ) → List (List (List ℕ)) → Result (List ℕ) Reason → Option RowsTold
told_behind columns header rest (Ok places) = told_from columns places (length header) 0 rest
told_behind columns header rest (Err reason) = header_told (names_halt 0 columns header)

unfoldable pub told_under : List Column → List (List (List ℕ)) → Option RowsTold
told_under columns [] = None
told_under columns (header ∷ rest) = told_behind columns header rest (places_from [] columns header)

abbrev pub told_in : List Column → Result (List ℕ) Reason → Option RowsTold
told_in columns (Ok text) = told_under columns (records default_config (strip_bom text))
told_in columns (Err reason) = None

-- the header or the first record that a row file is refused for
unfoldable pub told_of : Schema → List ℕ → Option RowsTold
told_of schema bytes = told_in schema.columns (text_of bytes)

-- a fault of a file as a whole, of its want of records or of their number
abbrev pub is_whole : Reason → Bool
is_whole reasons.NotUtf8 = true
is_whole reasons.TooLong = true
is_whole reasons.NoHeader = true
is_whole reasons.TooMany = true
is_whole other = false

-- what is told is the fault for which the rows are refused, and there is nothing to tell where they are read or where the
-- fault is of no record's
abbrev pub Tells : {A : Type 0} → Option RowsTold → Result A Fault → Type 0
Tells (Some told) rows = rows ≡ Err (fault_at files.Rows told.place (reason_of told.halt))
Tells None (Ok rows) = ⊤
Tells None (Err fault) = is_whole fault.reason ≡ true
