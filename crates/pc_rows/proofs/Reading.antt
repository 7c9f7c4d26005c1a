-- The rows of a file's records, as far as a loop has come.
use Rattle.std.proofs.Common.{◌≡◌, ℕ, ℤ, length, List, [], ◌∷◌, ◌++◌, Ok, Err, refl}
use Rattle.pc_model.specs.declared.fault.Fault.{Fault}
use Rattle.pc_model.specs.declared.fault.Refusal.{Refusal}
use Rattle.pc_model.specs.declared.fault.Refusal.TheVariants as refusals
use Rattle.pc_model.specs.declared.row.Row.{Row}
use Rattle.pc_model.specs.declared.schema.Column.{Column}
use Rattle.pc_model.specs.Membership.{row_from as row}
use Rattle.pc_model.specs.Refusals.{RefusesAs}
use Rattle.pc_rows.specs.RowFile.{cells_at, rows_from}

module _ (columns : List Column) (places : List ℕ) (width : ℕ) where
  pub rows_step : (before : List Row) (cells : List ℤ) (table rest : List (List (List ℕ))) (fields : List (List ℕ)) → table ≡ fields ∷ rest → cells_at columns places width (length before) fields ≡ Ok cells → rows_from columns places width before table ≡ rows_from columns places width (before ++ row cells ∷ []) rest
  unfolding rows_from
  rows_step before cells table rest fields split e = rw (split, e) refl

  pub rows_end : (before : List Row) (table : List (List (List ℕ))) → table ≡ [] → rows_from columns places width before table ≡ Ok before
  unfolding rows_from
  rows_end before table none = rw none refl

  rows_fault : (before : List Row) (fault : Fault) (table rest : List (List (List ℕ))) (fields : List (List ℕ)) → table ≡ fields ∷ rest → cells_at columns places width (length before) fields ≡ Err fault → rows_from columns places width before table ≡ Err fault
  unfolding rows_from
  rows_fault before fault table rest fields split e = rw (split, e) refl

  pub rows_refused : (refusal : Refusal) (before : List Row) (table rest : List (List (List ℕ))) (fields : List (List ℕ)) → table ≡ fields ∷ rest → RefusesAs refusal (cells_at columns places width (length before) fields) → RefusesAs refusal (rows_from columns places width before table)
  rows_refused (refusals.Fault fault) before table rest fields split e = rows_fault before fault table rest fields split e
  rows_refused refusals.Memory before table rest fields split e = tt

pub ruleset steps = (rows_step, rows_end)
