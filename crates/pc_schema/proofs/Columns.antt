-- The columns of a file's records, as far as a loop has come.
use Rattle.std.proofs.Common.{◌≡◌, ℕ, List, [], ◌∷◌, ◌++◌, Ok, Err, refl}
use Rattle.pc_model.specs.declared.fault.Fault.{Fault}
use Rattle.pc_model.specs.declared.fault.Refusal.{Refusal}
use Rattle.pc_model.specs.declared.fault.Refusal.TheVariants as refusals
use Rattle.pc_model.specs.declared.schema.Column.{Column}
use Rattle.pc_model.specs.Refusals.{RefusesAs}
use Rattle.pc_schema.specs.SchemaFile.{column_at, columns_from}

pub columns_step : (before : List Column) (column : Column) (table rest : List (List (List ℕ))) (fields : List (List ℕ)) → table ≡ fields ∷ rest → column_at before fields ≡ Ok column → columns_from before table ≡ columns_from (before ++ column ∷ []) rest
unfolding columns_from
columns_step before column table rest fields split e = rw (split, e) refl

pub columns_end : (before : List Column) (table : List (List (List ℕ))) → table ≡ [] → columns_from before table ≡ Ok before
unfolding columns_from
columns_end before table none = rw none refl

columns_fault : (before : List Column) (fault : Fault) (table rest : List (List (List ℕ))) (fields : List (List ℕ)) → table ≡ fields ∷ rest → column_at before fields ≡ Err fault → columns_from before table ≡ Err fault
unfolding columns_from
columns_fault before fault table rest fields split e = rw (split, e) refl

pub columns_refused : (refusal : Refusal) (before : List Column) (table rest : List (List (List ℕ))) (fields : List (List ℕ)) → table ≡ fields ∷ rest → RefusesAs refusal (column_at before fields) → RefusesAs refusal (columns_from before table)
columns_refused (refusals.Fault fault) before table rest fields split e = columns_fault before fault table rest fields split e
columns_refused refusals.Memory before table rest fields split e = tt

pub ruleset steps = (columns_step, columns_end)
