-- The numbers of a record, as far as a loop has come.
use Rattle.std.proofs.Common.{◌≡◌, ℕ, ◌+◌, ◌<◌, ◌≤◌, ℤ, length, get_or, drop, List, [], ◌∷◌, ◌++◌, Ok, Err, refl, add-one, drop-cons}
use Rattle.std.proofs.lemmas.List.{drop_all}
use Rattle.pc_model.specs.declared.fault.Reason.{Reason}
use Rattle.pc_model.specs.declared.schema.Column.{Column}
use Rattle.pc_records.specs.Fields.{field}
use Rattle.pc_rows.specs.RowFile.{cell_of, cells_from}

pub cells_step : (before : List ℤ) (columns : List Column) (places : List ℕ) (fields : List (List ℕ)) (at : ℕ) (cell : ℤ) (d : Column) → at < length columns → at < length places → cell_of (get_or columns at d).kind (field fields (get_or places at 0)) ≡ Ok cell → cells_from before (drop at columns) (drop at places) fields ≡ cells_from (before ++ cell ∷ []) (drop (at + 1) columns) (drop (at + 1) places) fields
unfolding cells_from
cells_step before columns places fields at cell d in_columns in_places e = rw (add-one, drop-cons columns at d in_columns, drop-cons places at 0 in_places, e) refl

pub cells_end : (before : List ℤ) (columns : List Column) (places : List ℕ) (fields : List (List ℕ)) (at : ℕ) → length columns ≤ at → cells_from before (drop at columns) (drop at places) fields ≡ Ok before
unfolding cells_from
cells_end before columns places fields at past = rw (drop_all at columns past) refl

pub cells_err : (before : List ℤ) (columns : List Column) (places : List ℕ) (fields : List (List ℕ)) (at : ℕ) (d : Column) (reason : Reason) → at < length columns → at < length places → cell_of (get_or columns at d).kind (field fields (get_or places at 0)) ≡ Err reason → cells_from before (drop at columns) (drop at places) fields ≡ Err reason
unfolding cells_from
cells_err before columns places fields at d reason in_columns in_places e = rw (drop-cons columns at d in_columns, drop-cons places at 0 in_places, e) refl

pub ruleset steps = (cells_step, cells_end, cells_err)
