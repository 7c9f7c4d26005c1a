-- Which schema a file spells, or its first fault.
use Rattle.std.specs.Prelude.{◌≢◌, ℕ, ◌+◌, ◌==◌, not, ℤ, int_lt, unsigned_abs, Bool, List, [], ◌∷◌, ◌++◌, length, drop, All, codes, Result, Ok, Err, nat_le, nat_lt, if◌then◌else◌}
use Rattle.std.specs.Char.{is_ascii_digit}
use Rattle.std.specs.List.{list_all, list_any}
use Rattle.std.specs.Str.{bytes_eq}
use Rattle.csv.specs.Reading.{default_config, records, strip_bom}
use Rattle.pc_model.specs.declared.fault.FileKind.TheVariants as files
use Rattle.pc_model.specs.declared.fault.Fault.{Fault}
use Rattle.pc_model.specs.declared.fault.Reason.{Reason}
use Rattle.pc_model.specs.declared.fault.Reason.TheVariants as reasons
use Rattle.pc_model.specs.declared.schema.Kind.{Kind}
use Rattle.pc_model.specs.declared.schema.Kind.TheVariants.{Int, Dec, Cat}
use Rattle.pc_model.specs.declared.schema.Column.{Column}
use Rattle.pc_model.specs.declared.schema.Schema.{Schema}
use Rattle.pc_model.specs.Numbers.{number_of}
use Rattle.pc_model.specs.Refusals.{◌>>=◌, fault_at, placed}
use Rattle.pc_model.specs.Texts.{is_name, text_of}
use Rattle.pc_records.specs.Fields.{field}

-- a name, unless it is taken already
unfoldable pub name_of : Bool → List ℕ → Result (List ℕ) Reason
name_of is_taken text =
    if not (is_name text) then Err reasons.BadName
    else if is_taken then Err reasons.RepeatedName
    else Ok text

-- the low and the high of a column
unfoldable pub span_of : ℕ → List ℕ → List ℕ → Result (ℤ × ℤ) Reason
span_of scale low_text high_text = do
  low ← number_of scale low_text
  high ← number_of scale high_text
  if int_lt high low then Err reasons.EmptySpan else Ok (low, high)

-- digits alone, of a number that is at most 6
unfoldable pub scale_of : List ℕ → Result ℕ Reason
scale_of text =
    if not (list_all is_ascii_digit text) then Err reasons.BadNumber
    else do
      scale ← number_of 0 text
      if nat_lt 6 (unsigned_abs scale) then Err reasons.PastLimit else Ok (unsigned_abs scale)

-- NAME,int,LOW,HIGH
unfoldable pub int_of : List (List ℕ) → Result Kind Reason
int_of fields =
    if not (length fields == 4) then Err reasons.FieldCount
    else do
      span ← span_of 0 (field fields 2) (field fields 3)
      Ok (Int span.0 span.1)

-- NAME,dec,SCALE,LOW,HIGH
unfoldable pub dec_of : List (List ℕ) → Result Kind Reason
dec_of fields =
    if not (length fields == 5) then Err reasons.FieldCount
    else do
      scale ← scale_of (field fields 2)
      span ← span_of scale (field fields 3) (field fields 4)
      Ok (Dec scale span.0 span.1)

-- the names from here on, after those before
unfoldable pub names_from : List (List ℕ) → List (List ℕ) → Result (List (List ℕ)) Reason
names_from before [] = Ok before
names_from before (text ∷ rest) = do
  name ← name_of (list_any (bytes_eq text) before) text
  names_from (before ++ name ∷ []) rest

-- NAME,cat,NAME1,NAME2,..
unfoldable pub cat_of : List (List ℕ) → Result Kind Reason
cat_of fields =
    if nat_lt (length fields) 3 then Err reasons.FieldCount
    else if nat_lt 130 (length fields) then Err reasons.TooMany
    else do
      names ← names_from [] (drop 2 fields)
      Ok (Cat names)

unfoldable pub kind_of : List (List ℕ) → Result Kind Reason
kind_of fields =
    if bytes_eq (field fields 1) (codes "int") then int_of fields
    else if bytes_eq (field fields 1) (codes "dec") then dec_of fields
    else if bytes_eq (field fields 1) (codes "cat") then cat_of fields
    else Err reasons.BadKind

abbrev pub is_taken : List Column → List ℕ → Bool
is_taken columns name = list_any (λ (column : Column). bytes_eq name column.name) columns

-- none of the columns has this name
abbrev pub LackName : List ℕ → List Column → Type 0
LackName name columns = All (λ (column : Column). column.name ≢ name) columns

-- the column of a record, after the columns before it
unfoldable pub column_of : List Column → List (List ℕ) → Result Column Reason
column_of before fields =
    if nat_le 12 (length before) then Err reasons.TooMany
    else do
      name ← name_of (is_taken before (field fields 0)) (field fields 0)
      kind ← kind_of fields
      Ok (record { name = name; kind = kind })

-- the same with its place, which is one more than the number of columns before
unfoldable pub column_at : List Column → List (List ℕ) → Result Column Fault
column_at before fields = placed files.Schema (length before + 1) (column_of before fields)

-- the columns of these records, after the columns before them
unfoldable pub columns_from : List Column → List (List (List ℕ)) → Result (List Column) Fault
columns_from before [] = Ok before
columns_from before (fields ∷ rest) = do
  column ← column_at before fields
  columns_from (before ++ column ∷ []) rest

-- a schema has a column at least
abbrev pub schema_from : List Column → Result Schema Fault
schema_from [] = Err (fault_at files.Schema 1 reasons.NoHeader)
schema_from (column ∷ columns) = Ok (record { columns = column ∷ columns })

-- the schema that a file spells, or its first fault
unfoldable pub schema_of : List ℕ → Result Schema Fault
schema_of bytes = do
  text ← placed files.Schema 0 (text_of bytes)
  columns ← columns_from [] (records default_config (strip_bom text))
  schema_from columns
