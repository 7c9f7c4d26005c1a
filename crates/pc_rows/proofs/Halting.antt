-- What halts the reader of a record and of a header, as far as a loop has come, and for which reason.
use Rattle.std.proofs.Common.{◌≡◌, ℕ, ◌+◌, ◌<◌, ◌≤◌, ◌==◌, Bool, true, false, not, ℤ, length, get_or, drop, List, [], ◌∷◌, ◌++◌, Option, Some, None, is_some, Result, Ok, Err, refl, sym, add-one, drop-cons}
use Rattle.std.specs.Result.{is_err}
use Rattle.std.proofs.lemmas.Bool.{false≢true}
use Rattle.std.proofs.lemmas.List.{drop_all}
use Rattle.pc_model.specs.declared.fault.Reason.{Reason}
use Rattle.pc_model.specs.declared.fault.Reason.TheVariants as reasons
use Rattle.pc_model.specs.declared.schema.Column.{Column}
use Rattle.pc_records.specs.Fields.{field}
use Rattle.pc_rows.specs.declared.halt.Halt.{Halt}
use Rattle.pc_rows.specs.declared.halt.Halt.TheVariants as halts
use Rattle.pc_rows.specs.RowFile.{cell_of, cells_from, cells_of, place_in, places_from}
use Rattle.pc_rows.specs.Told.{HaltsAs, fields_halt, names_halt, record_halt, reason_of}

module _ (columns : List Column) (places : List ℕ) (fields : List (List ℕ)) (at : ℕ) where
  pub field_read : (cell : ℤ) (d : Column) → at < length columns → at < length places → cell_of (get_or columns at d).kind (field fields (get_or places at 0)) ≡ Ok cell → fields_halt at (drop at columns) (drop at places) fields ≡ fields_halt (at + 1) (drop (at + 1) columns) (drop (at + 1) places) fields
  unfolding fields_halt
  field_read cell d in_columns in_places e = rw (drop-cons columns at d in_columns, drop-cons places at 0 in_places, e) (rw add-one refl)

  pub field_halts : (reason : Reason) (d : Column) → at < length columns → at < length places → cell_of (get_or columns at d).kind (field fields (get_or places at 0)) ≡ Err reason → fields_halt at (drop at columns) (drop at places) fields ≡ Some (halts.Field at (get_or places at 0) reason)
  unfolding fields_halt
  field_halts reason d in_columns in_places e = rw (drop-cons columns at d in_columns, drop-cons places at 0 in_places, e) refl

  pub fields_end : length columns ≤ at → fields_halt at (drop at columns) (drop at places) fields ≡ None
  unfolding fields_halt
  fields_end past = rw (drop_all at columns past) refl

pub ruleset fields_steps = (field_read, field_halts, fields_end)

module _ (columns : List Column) (header : List (List ℕ)) (at : ℕ) where
  pub name_found : (place : ℕ) (d : Column) → at < length columns → place_in (get_or columns at d).name header ≡ Ok place → names_halt at (drop at columns) header ≡ names_halt (at + 1) (drop (at + 1) columns) header
  unfolding names_halt
  name_found place d inside e = rw (drop-cons columns at d inside, e) (rw add-one refl)

  pub name_halts : (reason : Reason) (d : Column) → at < length columns → place_in (get_or columns at d).name header ≡ Err reason → names_halt at (drop at columns) header ≡ Some (halts.Name at reason)
  unfolding names_halt
  name_halts reason d inside e = rw (drop-cons columns at d inside, e) refl

  pub names_end : length columns ≤ at → names_halt at (drop at columns) header ≡ None
  unfolding names_halt
  names_end past = rw (drop_all at columns past) refl

pub ruleset names_steps = (name_found, name_halts, names_end)

-- ---- the reason

fields_halt_as : (before : List ℤ) (columns : List Column) (places : List ℕ) (fields : List (List ℕ)) (at : ℕ) → HaltsAs (fields_halt at columns places fields) (cells_from before columns places fields)
unfolding fields_halt cells_from
fields_halt_as before [] places fields at = refl
fields_halt_as before (column ∷ columns) places fields at =
    by_cell (λ cell. fields_halt_as (before ++ cell ∷ []) columns (drop 1 places) fields (at + 1)) (cell_of column.kind (field fields (get_or places 0 0))) refl
  where
    by_cell : ((cell : ℤ) → HaltsAs (fields_halt (at + 1) columns (drop 1 places) fields) (cells_from (before ++ cell ∷ []) columns (drop 1 places) fields))
        → (read : Result ℤ Reason) → cell_of column.kind (field fields (get_or places 0 0)) ≡ read → HaltsAs (fields_halt at (column ∷ columns) places fields) (cells_from before (column ∷ columns) places fields)
    by_cell later (Ok cell) e = rw e (later cell)
    by_cell later (Err reason) e = rw e refl

-- what halts the reader of a record is why it is refused
pub record_halts_as : (columns : List Column) (places : List ℕ) (width : ℕ) (fields : List (List ℕ)) → HaltsAs (record_halt columns places width fields) (cells_of columns places width fields)
unfolding record_halt cells_of
record_halts_as columns places width fields = by_width (length fields == width) refl
  where
    by_width : (fits : Bool) → (length fields == width) ≡ fits → HaltsAs (record_halt columns places width fields) (cells_of columns places width fields)
    by_width true e = rw e (fields_halt_as [] columns places fields 0)
    by_width false e = rw e refl

refused : (halt : Option Halt) (read : Result (List ℤ) Reason) → HaltsAs halt read → is_some halt ≡ is_err read
refused None (Ok cells) as_read = refl
refused None (Err reason) as_read = absurd (false≢true as_read)
refused (Some halt) (Ok cells) as_read = cc
refused (Some halt) (Err reason) as_read = refl

pub halts_where_refused : (columns : List Column) (places : List ℕ) (width : ℕ) (fields : List (List ℕ)) → is_some (record_halt columns places width fields) ≡ is_err (cells_of columns places width fields)
halts_where_refused columns places width fields = refused (record_halt columns places width fields) (cells_of columns places width fields) (record_halts_as columns places width fields)

names_halt_as : (before : List ℕ) (columns : List Column) (header : List (List ℕ)) (at : ℕ) → HaltsAs (names_halt at columns header) (places_from before columns header)
unfolding names_halt places_from
names_halt_as before [] header at = refl
names_halt_as before (column ∷ columns) header at =
    by_place (λ place. names_halt_as (before ++ place ∷ []) columns header (at + 1)) (place_in column.name header) refl
  where
    by_place : ((place : ℕ) → HaltsAs (names_halt (at + 1) columns header) (places_from (before ++ place ∷ []) columns header))
        → (found : Result ℕ Reason) → place_in column.name header ≡ found → HaltsAs (names_halt at (column ∷ columns) header) (places_from before (column ∷ columns) header)
    by_place later (Ok place) e = rw e (later place)
    by_place later (Err reason) e = rw e refl

-- .. and of a header
pub header_halts_as : (columns : List Column) (header : List (List ℕ)) → HaltsAs (names_halt 0 columns header) (places_from [] columns header)
header_halts_as columns header = names_halt_as [] columns header 0
