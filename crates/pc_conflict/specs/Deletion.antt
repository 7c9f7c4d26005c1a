-- Which constraints contradict each other, and how those that are not needed for it are left out, one after the other.
use Rattle.std.specs.Prelude.{◌≡◌, ℕ, zero, suc, ◌-◌, ◌<◌, ◌⊎◌, List, [], ◌++◌, ◌∷◌, length, flat_map, slice_get}
use Rattle.std.specs.List.{range_with_len}
use Rattle.std.specs.Option.{option_to_list}
use Rattle.pc_model.specs.declared.schema.Schema.{Schema}
use Rattle.pc_model.specs.declared.row.Row.{Row}
use Rattle.pc_model.specs.declared.row.Run.{Run}
use Rattle.pc_model.specs.declared.constraint.Constraint.{Constraint}
use Rattle.pc_model.specs.Possible.{IsPossible}
use Rattle.pc_model.specs.Runs.{AreRuns, rows_of}

-- the constraints of these places, in this order
abbrev pub at_places : List Constraint → List ℕ → List Constraint
at_places constraints places = flat_map (λ place. option_to_list (slice_get constraints place)) places

-- the places from this one on
abbrev pub from_place : List Constraint → ℕ → List ℕ
from_place constraints place = range_with_len place (length constraints - place)

-- no list of rows is possible for the constraints
abbrev pub AreContrary : Schema → List Constraint → Type 0
AreContrary schema constraints = (rows : List Row) → IsPossible schema constraints rows → ⊥

-- some list is
pub record AreCompatible (schema : Schema) (constraints : List Constraint) : Type 0 where
  pub rows : List Row
  pub possible : IsPossible schema constraints rows

-- the runs stand for a list that is possible for the constraints
pub record StandFor (schema : Schema) (constraints : List Constraint) (runs : List Run) : Type 0 where
  pub each_stands : AreRuns runs
  pub possible : IsPossible schema constraints (rows_of runs)

-- ---- the tests, in their order

-- of the constraints before a place these are kept, and all from the place on: the next is left out where the others are still
-- contrary, and kept where a list is possible for them
abbrev pub IsNext : Schema → List Constraint → ℕ → List ℕ → List ℕ → Type 0
IsNext schema constraints place before after =
    (AreContrary schema (at_places constraints (before ++ from_place constraints (suc place))) × (after ≡ before))
    ⊎ (AreCompatible schema (at_places constraints (before ++ from_place constraints (suc place))) × (after ≡ before ++ place ∷ []))

-- what is kept of the constraints before a place, after a test of all and one for each of them
abbrev pub AreKept : Schema → List Constraint → ℕ → List ℕ → Type 0
AreKept schema constraints zero kept = AreContrary schema constraints × (kept ≡ [])
AreKept schema constraints (suc place) kept = (before : List ℕ) × AreKept schema constraints place before × IsNext schema constraints place before kept

-- the test of all, or that without the constraint of a place up to which all are decided
abbrev pub IsNextTest : Schema → List Constraint → List ℕ → Type 0
IsNextTest schema constraints tested =
    (tested ≡ from_place constraints 0)
    ⊎ ((place : ℕ) × (kept : List ℕ) × (place < length constraints) × AreKept schema constraints place kept × (tested ≡ kept ++ from_place constraints (suc place)))
