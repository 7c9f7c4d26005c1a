-- What the tests of constraints, one after the other, keep.
use Rattle.std.specs.Prelude.{ℕ, suc, ◌≤◌, ◌<◌, nat_lt, List, [], ◌∷◌, ◌++◌, length, filter, All, AllPairs}
use Rattle.std.specs.List.{AllZip}
use Rattle.pc_model.specs.declared.schema.Schema.{Schema}
use Rattle.pc_model.specs.declared.row.Run.{Run}
use Rattle.pc_model.specs.declared.constraint.Constraint.{Constraint}
use Rattle.pc_conflict.specs.declared.deletion.Deletion.{Deletion}
use Rattle.pc_conflict.specs.Besides.{spoken_runs}
use Rattle.pc_conflict.specs.Core.{IsFreeWithout, other_than}
use Rattle.pc_conflict.specs.Deletion.{at_places, from_place, AreContrary, AreKept, StandFor}

-- places of the list, each below the next
pub record ArePlaces (constraints : List Constraint) (places : List ℕ) : Type 0 where
  pub inside : All (λ place. place < length constraints) places
  pub rising : AllPairs (λ (a b : ℕ). a < b) places

-- the members before a place
abbrev pub lower_than : ℕ → List ℕ → List ℕ
lower_than place members = filter (λ (member : ℕ). nat_lt member place) members

-- what is tested without the constraint of a place: the members before it, and all after it
abbrev pub tested_at : List Constraint → List ℕ → ℕ → List ℕ
tested_at constraints members place = lower_than place members ++ from_place constraints (suc place)

-- the runs stand for a list that the test of a member found
abbrev pub IsFoundAt : Schema → List Constraint → List ℕ → ℕ → List Run → Type 0
IsFoundAt schema constraints members member runs = StandFor schema (at_places constraints (tested_at constraints members member)) runs

-- the members are what is kept of the constraints before the place, each with a list that its test found
pub record IsDeletion (schema : Schema) (constraints : List Constraint) (place : ℕ) (deletion : Deletion) : Type 0 where
  pub inside : place ≤ length constraints
  pub before : All (λ member. member < place) deletion.members
  pub rising : AllPairs (λ (a b : ℕ). a < b) deletion.members
  pub kept : AreKept schema constraints place deletion.members
  pub contrary : AreContrary schema (at_places constraints (deletion.members ++ from_place constraints place))
  pub each : AllZip (IsFoundAt schema constraints deletion.members) deletion.members deletion.found

-- the constraint of a place kept too, with what its test found
abbrev pub with_member : Deletion → ℕ → List Run → Deletion
with_member deletion place runs = record { members = deletion.members ++ place ∷ []; found = deletion.found ++ runs ∷ [] }

-- ---- after the last test

-- of the runs that were found for a member, those that the other members speak of
abbrev pub runs_without : List Constraint → List ℕ → ℕ → List Run → List Run
runs_without constraints members member runs =
    spoken_runs (at_places constraints (tested_at constraints members member)) (at_places constraints (other_than member members)) runs

-- where a list was found for each member, these are possible for the others
abbrev pub AreFreeWithout : List Constraint → List ℕ → List (List Run) → List (List Run) → Type 0
AreFreeWithout constraints members found without =
    (schema : Schema) → AllZip (IsFoundAt schema constraints members) members found → AllZip (IsFreeWithout schema constraints members) members without
