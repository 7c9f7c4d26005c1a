-- The places of the columns in a header, as far as a loop has come.
use Rattle.std.proofs.Common.{◌≡◌, ℕ, ◌+◌, ◌<◌, ◌≤◌, length, get_or, drop, true, false, List, [], ◌∷◌, ◌++◌, Some, None, Ok, Err, refl, add-one, drop-cons}
use Rattle.std.specs.Str.{bytes_eq}
use Rattle.std.proofs.lemmas.List.{drop_all}
use Rattle.pc_model.specs.declared.fault.Reason.{Reason}
use Rattle.pc_model.specs.declared.schema.Column.{Column}
use Rattle.pc_records.specs.Fields.{field}
use Rattle.pc_rows.specs.RowFile.{place_from, place_in, places_from}

pub place_here : (name : List ℕ) (fields : List (List ℕ)) (place : ℕ) → place < length fields → bytes_eq name (field fields place) ≡ true → place_from place name (drop place fields) ≡ Some place
unfolding place_from
place_here name fields place inside e = rw (drop-cons fields place [], e) refl

pub place_later : (name : List ℕ) (fields : List (List ℕ)) (place : ℕ) → place < length fields → bytes_eq name (field fields place) ≡ false → place_from place name (drop place fields) ≡ place_from (place + 1) name (drop (place + 1) fields)
unfolding place_from
place_later name fields place inside e = rw (drop-cons fields place [], e) (rw add-one refl)

pub place_nowhere : (name : List ℕ) (fields : List (List ℕ)) (place : ℕ) → length fields ≤ place → place_from place name (drop place fields) ≡ None
unfolding place_from
place_nowhere name fields place past = rw (drop_all place fields past) refl

pub ruleset scan = (place_here, place_later, place_nowhere)

pub places_step : (before : List ℕ) (columns : List Column) (fields : List (List ℕ)) (at place : ℕ) (d : Column) → at < length columns → place_in (get_or columns at d).name fields ≡ Ok place → places_from before (drop at columns) fields ≡ places_from (before ++ place ∷ []) (drop (at + 1) columns) fields
unfolding places_from
places_step before columns fields at place d inside e = rw (add-one, drop-cons columns at d, e) refl

pub places_end : (before : List ℕ) (columns : List Column) (fields : List (List ℕ)) (at : ℕ) → length columns ≤ at → places_from before (drop at columns) fields ≡ Ok before
unfolding places_from
places_end before columns fields at past = rw (drop_all at columns past) refl

pub places_err : (before : List ℕ) (columns : List Column) (fields : List (List ℕ)) (at : ℕ) (d : Column) (reason : Reason) → at < length columns → place_in (get_or columns at d).name fields ≡ Err reason → places_from before (drop at columns) fields ≡ Err reason
unfolding places_from
places_err before columns fields at d reason inside e = rw (drop-cons columns at d, e) refl

pub ruleset steps = (places_step, places_end, places_err)
