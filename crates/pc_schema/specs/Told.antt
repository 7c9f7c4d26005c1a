-- Which field of a schema file keeps it from being read.
use Rattle.std.specs.Prelude.{◌≡◌, ℕ, ◌+◌, ◌==◌, not, true, false, Bool, ℤ, List, [], ◌∷◌, ◌++◌, length, drop, codes, Option, Some, None, Result, Ok, Err, nat_le, nat_lt, if◌then◌else◌}
use Rattle.std.specs.Bool.{⊤}
use Rattle.std.specs.List.{list_any}
use Rattle.std.specs.Str.{bytes_eq}
use Rattle.csv.specs.Reading.{default_config, records, strip_bom}
use Rattle.pc_model.specs.declared.fault.FileKind.TheVariants as files
use Rattle.pc_model.specs.declared.fault.Fault.{Fault}
use Rattle.pc_model.specs.declared.fault.Reason.{Reason}
use Rattle.pc_model.specs.declared.fault.Reason.TheVariants as reasons
use Rattle.pc_model.specs.declared.schema.Column.{Column}
use Rattle.pc_model.specs.Numbers.{number_of}
use Rattle.pc_model.specs.Refusals.{fault_at}
use Rattle.pc_model.specs.Texts.{text_of}
use Rattle.pc_records.specs.Fields.{field}
use Rattle.pc_schema.specs.declared.halt.Halt.{Halt}
use Rattle.pc_schema.specs.declared.halt.Halt.TheVariants as halts
use Rattle.pc_schema.specs.declared.halt.Wanted.{Wanted}
use Rattle.pc_schema.specs.declared.halt.Wanted.TheVariants as wants
use Rattle.pc_schema.specs.declared.tell.SchemaTold.{SchemaTold}
use Rattle.pc_schema.specs.SchemaFile.{column_of, is_taken, name_of, scale_of, span_of}

abbrev pub reason_of : Halt → Reason
reason_of halts.Room = reasons.TooMany
reason_of (halts.Count fields reason) = reason
reason_of (halts.Field place wanted reason) = reason

-- a record is read where nothing halts its reader, and else refused for the reason of what does
abbrev pub HaltsAs : {A : Type 0} → Option Halt → Result A Reason → Type 0
HaltsAs None (Ok value) = ⊤
HaltsAs None (Err reason) = ⊥
HaltsAs (Some halt) wanted = wanted ≡ Err (reason_of halt)

-- a field halts the reader where it gives nothing of what is wanted there
abbrev pub at_field : {A : Type 0} → ℕ → Wanted → Result A Reason → Option Halt → Option Halt
at_field place wanted (Ok value) later = later
at_field place wanted (Err reason) later = Some (halts.Field place wanted reason)

-- the low, and behind it the high, which is not below it
unfoldable pub span_halt : ℕ → ℕ → List (List ℕ) → Option Halt
span_halt scale place fields =
    at_field place (wants.Number scale) (number_of scale (field fields place))
    (at_field (place + 1) (wants.Number scale) (span_of scale (field fields place) (field fields (place + 1))) None)

unfoldable pub int_halt : List (List ℕ) → Option Halt
int_halt fields = if not (length fields == 4) then Some (halts.Count (length fields) reasons.FieldCount) else span_halt 0 2 fields

abbrev pub behind_scale : List (List ℕ) → Result ℕ Reason → Option Halt
behind_scale fields (Ok scale) = span_halt scale 3 fields
behind_scale fields (Err reason) = Some (halts.Field 2 wants.Scale reason)

unfoldable pub dec_halt : List (List ℕ) → Option Halt
dec_halt fields =
    if not (length fields == 5) then Some (halts.Count (length fields) reasons.FieldCount) else behind_scale fields (scale_of (field fields 2))

-- the first of the names from here on, after those before, that is none or stands before
unfoldable pub names_halt : List (List ℕ) → ℕ → List (List ℕ) → Option Halt
names_halt before place [] = None
names_halt before place (text ∷ rest) =
    at_field place wants.Name (name_of (list_any (bytes_eq text) before) text) (names_halt (before ++ text ∷ []) (place + 1) rest)

unfoldable pub cat_halt : List (List ℕ) → Option Halt
cat_halt fields =
    if nat_lt (length fields) 3 then Some (halts.Count (length fields) reasons.FieldCount)
    else if nat_lt 130 (length fields) then Some (halts.Count (length fields) reasons.TooMany)
    else names_halt [] 2 (drop 2 fields)

unfoldable pub kind_halt : List (List ℕ) → Option Halt
kind_halt fields =
    if bytes_eq (field fields 1) (codes "int") then int_halt fields
    else if bytes_eq (field fields 1) (codes "dec") then dec_halt fields
    else if bytes_eq (field fields 1) (codes "cat") then cat_halt fields
    else Some (halts.Field 1 wants.Kind reasons.BadKind)

-- what halts the reader of a record, after the columns before it
unfoldable pub column_halt : List Column → List (List ℕ) → Option Halt
column_halt before fields =
    if nat_le 12 (length before) then Some halts.Room
    else at_field 0 wants.Name (name_of (is_taken before (field fields 0)) (field fields 0)) (kind_halt fields)

-- the field at which a reader halts, or no bytes
abbrev pub halt_field : Halt → List (List ℕ) → List ℕ
halt_field halts.Room fields = []
halt_field (halts.Count count reason) fields = []
halt_field (halts.Field place wanted reason) fields = field fields place

abbrev pub record_told : ℕ → List (List ℕ) → Option Halt → Option SchemaTold
record_told count fields None = None
record_told count fields (Some halt) = Some (record { place = count + 1; halt = halt; field = halt_field halt fields })

abbrev pub told_unless : Result Column Reason → Option SchemaTold → (Column → Option SchemaTold) → Option SchemaTold
told_unless (Ok column) told later = later column
told_unless (Err reason) told later = told

-- the first of these records that is refused, after the columns before it
unfoldable pub told_from : List Column → List (List (List ℕ)) → Option SchemaTold
told_from before [] = None
told_from before (fields ∷ rest) =
    told_unless (column_of before fields) (record_told (length before) fields (column_halt before fields)) (λ column. told_from (before ++ column ∷ []) rest)

abbrev pub told_in : Result (List ℕ) Reason → Option SchemaTold
told_in (Ok text) = told_from [] (records default_config (strip_bom text))
told_in (Err reason) = None

-- the first record that a schema file is refused for
unfoldable pub told_of : List ℕ → Option SchemaTold
told_of bytes = told_in (text_of bytes)

-- a fault of a file as a whole, or of its want of records
abbrev pub is_whole : Reason → Bool
is_whole reasons.NotUtf8 = true
is_whole reasons.TooLong = true
is_whole reasons.NoHeader = true
is_whole other = false

-- what is told is the fault for which the schema is refused, and there is nothing to tell where it is read or where the
-- fault is of no record's
abbrev pub Tells : {A : Type 0} → Option SchemaTold → Result A Fault → Type 0
Tells (Some told) schema = schema ≡ Err (fault_at files.Schema told.place (reason_of told.halt))
Tells None (Ok schema) = ⊤
Tells None (Err fault) = is_whole fault.reason ≡ true
