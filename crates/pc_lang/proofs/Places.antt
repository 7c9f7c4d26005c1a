-- The place of a column of a name, as far as a loop has come.
use Rattle.std.proofs.Common.{◌≡◌, ℕ, ◌+◌, ◌<◌, ◌≤◌, Bool, true, false, List, length, drop, get_or, bytes_eq, Ok, Err, refl}
use Rattle.std.proofs.lemmas.List.{drop_all, drop_more}
use Rattle.pc_model.specs.declared.fault.Reason.TheVariants as reasons
use Rattle.pc_model.specs.declared.schema.Kind.{Kind}
use Rattle.pc_model.specs.declared.schema.Column.{Column}
use Rattle.pc_model.specs.declared.schema.Schema.{Schema}
use Rattle.pc_model.specs.WellFormed.{IsWellFormed}
use Rattle.pc_lang.specs.Meaning.{place_from}

pub few_columns : (schema : Schema) → IsWellFormed schema → length schema.columns ≤ 12
few_columns schema formed = formed.columns.few

pub place_passed : (fits : Kind → Bool) (columns : List Column) (place : ℕ) (column : Column) (name : List ℕ) → place < length columns → column ≡ get_or columns place column → bytes_eq column.name name ≡ false → place_from fits place (drop place columns) name ≡ place_from fits (place + 1) (drop (place + 1) columns) name
unfolding place_from
place_passed fits columns place column name inside is other = rw (drop_more columns place column inside, ← is, other) refl

pub place_fits : (fits : Kind → Bool) (columns : List Column) (place : ℕ) (column : Column) (name : List ℕ) → place < length columns → column ≡ get_or columns place column → bytes_eq column.name name ≡ true → fits column.kind ≡ true → place_from fits place (drop place columns) name ≡ Ok place
unfolding place_from
place_fits fits columns place column name inside is same fit = rw (drop_more columns place column inside, ← is, same, fit) refl

pub place_differs : (fits : Kind → Bool) (columns : List Column) (place : ℕ) (column : Column) (name : List ℕ) → place < length columns → column ≡ get_or columns place column → bytes_eq column.name name ≡ true → fits column.kind ≡ false → place_from fits place (drop place columns) name ≡ Err reasons.WrongKind
unfolding place_from
place_differs fits columns place column name inside is same fit = rw (drop_more columns place column inside, ← is, same, fit) refl

pub places_end : (fits : Kind → Bool) (columns : List Column) (place : ℕ) (name : List ℕ) → length columns ≤ place → place_from fits place (drop place columns) name ≡ Err reasons.UnknownColumn
unfolding place_from
places_end fits columns place name past = rw (drop_all place columns past) refl

pub ruleset steps = (place_passed, place_fits, place_differs, places_end)
