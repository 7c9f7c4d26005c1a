-- Which rows a file spells, or its first fault.
use Rattle.std.specs.Prelude.{ℕ, ◌+◌, ◌==◌, not, ℤ, pos, List, [], ◌∷◌, ◌++◌, length, drop, get_or, Option, Some, None, is_some, Result, Ok, Err, nat_le, if◌then◌else◌, position}
use Rattle.std.specs.Prelude.{reverse}
use Rattle.std.specs.Str.{bytes_eq}
use Rattle.csv.specs.Reading.{default_config, records, strip_bom}
use Rattle.pc_model.specs.declared.fault.FileKind.TheVariants as files
use Rattle.pc_model.specs.declared.fault.Fault.{Fault}
use Rattle.pc_model.specs.declared.fault.Reason.{Reason}
use Rattle.pc_model.specs.declared.fault.Reason.TheVariants as reasons
use Rattle.pc_model.specs.declared.row.Row.{Row}
use Rattle.pc_model.specs.declared.schema.Kind.{Kind}
use Rattle.pc_model.specs.declared.schema.Kind.TheVariants.{Int, Dec, Cat}
use Rattle.pc_model.specs.declared.schema.Column.{Column}
use Rattle.pc_model.specs.declared.schema.Schema.{Schema}
use Rattle.pc_model.specs.Membership.{is_between}
use Rattle.pc_model.specs.Numbers.{number_of}
use Rattle.pc_model.specs.Refusals.{◌>>=◌, fault_at, placed}
use Rattle.pc_model.specs.Texts.{text_of}
use Rattle.pc_model.specs.Membership.{row_from as row}
use Rattle.pc_records.specs.Fields.{field}
use Rattle.pc_rows.specs.Stored.{row_limit}

-- a text without the spaces before it
unfoldable pub after_spaces : List ℕ → List ℕ
after_spaces [] = []
after_spaces (byte ∷ rest) = if byte == 32 then after_spaces rest else byte ∷ rest

-- a text without the spaces at both ends
abbrev pub without_spaces : List ℕ → List ℕ
without_spaces text = reverse (after_spaces (reverse (after_spaces text)))

-- a number of the domain
abbrev pub in_span : ℤ → ℤ → ℤ → Result ℤ Reason
in_span low high number = if is_between low high number then Ok number else Err reasons.OutsideDomain

abbrev pub place_number : Option ℕ → Result ℤ Reason
place_number (Some place) = Ok (pos place)
place_number None = Err reasons.UnknownName

-- a number at this scale, in the domain, with spaces around it or not
abbrev pub number_within : ℕ → ℤ → ℤ → List ℕ → Result ℤ Reason
number_within scale low high text = number_of scale (without_spaces text) >>= in_span low high

-- the number of a field in a column of this kind
unfoldable pub cell_of : Kind → List ℕ → Result ℤ Reason
cell_of (Int low high) text = number_within 0 low high text
cell_of (Dec scale low high) text = number_within scale low high text
cell_of (Cat names) text = place_number (position (bytes_eq text) names)

-- the first place from here on that holds the name
unfoldable pub place_from : ℕ → List ℕ → List (List ℕ) → Option ℕ
place_from place name [] = None
place_from place name (other ∷ rest) = if bytes_eq name other then Some place else place_from (place + 1) name rest

abbrev pub only_place : List ℕ → List (List ℕ) → Option ℕ → Result ℕ Reason
only_place name header None = Err reasons.MissingColumn
only_place name header (Some place) = if is_some (place_from (place + 1) name (drop (place + 1) header)) then Err reasons.RepeatedName else Ok place

-- where the name stands in the header
unfoldable pub place_in : List ℕ → List (List ℕ) → Result ℕ Reason
place_in name header = only_place name header (place_from 0 name header)

-- where the columns stand in the header, after the places of those before them
unfoldable pub places_from : List ℕ → List Column → List (List ℕ) → Result (List ℕ) Reason
places_from before [] header = Ok before
places_from before (column ∷ columns) header = do
  place ← place_in column.name header
  places_from (before ++ place ∷ []) columns header

-- the numbers of a record in these columns, at the places from here on, after the numbers before them
unfoldable pub cells_from : List ℤ → List Column → List ℕ → List (List ℕ) → Result (List ℤ) Reason
cells_from before [] places fields = Ok before
cells_from before (column ∷ columns) places fields = do
  cell ← cell_of column.kind (field fields (get_or places 0 0))
  cells_from (before ++ cell ∷ []) columns (drop 1 places) fields

unfoldable pub cells_of : List Column → List ℕ → ℕ → List (List ℕ) → Result (List ℤ) Reason
cells_of columns places width fields = if not (length fields == width) then Err reasons.FieldCount else cells_from [] columns places fields

-- the numbers of a record, after so many rows; the header is record 1
unfoldable pub cells_at : List Column → List ℕ → ℕ → ℕ → List (List ℕ) → Result (List ℤ) Fault
cells_at columns places width count fields =
    if nat_le row_limit count then Err (fault_at files.Rows (count + 2) reasons.TooMany)
    else placed files.Rows (count + 2) (cells_of columns places width fields)

-- the rows of these records, after the rows before them
unfoldable pub rows_from : List Column → List ℕ → ℕ → List Row → List (List (List ℕ)) → Result (List Row) Fault
rows_from columns places width before [] = Ok before
rows_from columns places width before (fields ∷ rest) = do
  cells ← cells_at columns places width (length before) fields
  rows_from columns places width (before ++ row cells ∷ []) rest

-- the rows of a table
unfoldable pub rows_under : List Column → List (List (List ℕ)) → Result (List Row) Fault
rows_under columns [] = Err (fault_at files.Rows 1 reasons.NoHeader)
rows_under columns (header ∷ rest) = do
  places ← placed files.Rows 1 (places_from [] columns header)
  rows_from columns places (length header) [] rest

-- the rows that a file spells, or its first fault
unfoldable pub rows_of : Schema → List ℕ → Result (List Row) Fault
rows_of schema bytes = do
  text ← placed files.Rows 0 (text_of bytes)
  rows_under schema.columns (records default_config (strip_bom text))
