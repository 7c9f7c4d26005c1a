-- The fields at a place, as far as a loop has come.
use Rattle.std.proofs.Common.{◌≡◌, ℕ, List, [], ◌∷◌, ◌++◌, refl, append_assoc, append-nil}
use Rattle.pc_records.specs.Fields.{field}
use Rattle.pc_desk_schema.specs.Columns.{texts_at}

pub texts_step : (before : List (List ℕ)) (place : ℕ) (fields : List (List ℕ)) (table rest : List (List (List ℕ))) → table ≡ fields ∷ rest → (before ++ field fields place ∷ []) ++ texts_at place rest ≡ before ++ texts_at place table
texts_step before place fields table rest split = rw (split, append_assoc) refl

pub texts_end : (before : List (List ℕ)) (place : ℕ) (table : List (List (List ℕ))) → table ≡ [] → before ++ texts_at place table ≡ before
texts_end before place table none = rw none (append-nil before)

pub ruleset steps = (texts_step, texts_end)
