-- Constraints that contradict each other, none of which is to spare.
use Rattle.std.specs.Prelude.{ℕ, ◌==◌, ◌<◌, not, List, length, filter, All}
use Rattle.std.specs.List.{AllZip}
use Rattle.std.specs.List.Sorted.{IsStrictlyIncreasing}
use Rattle.pc_model.specs.declared.schema.Schema.{Schema}
use Rattle.pc_model.specs.declared.row.Run.{Run}
use Rattle.pc_model.specs.declared.constraint.Constraint.{Constraint}
use Rattle.pc_conflict.specs.Deletion.{at_places, AreContrary, AreKept, StandFor}

-- all places but one
abbrev pub other_than : ℕ → List ℕ → List ℕ
other_than place places = filter (λ (other : ℕ). not (other == place)) places

-- runs that stand for a list that is possible for all members but this one
abbrev pub IsFreeWithout : Schema → List Constraint → List ℕ → ℕ → List Run → Type 0
IsFreeWithout schema constraints members member runs = StandFor schema (at_places constraints (other_than member members)) runs

-- no list is possible for the members, and for each of them the runs beside it are possible for the others: they are what is kept
-- after all tests
pub record IsCore (schema : Schema) (constraints : List Constraint) (members : List ℕ) (without : List (List Run)) : Type 0 where
  pub places : All (λ place. place < length constraints) members
  pub rising : IsStrictlyIncreasing members
  pub contrary : AreContrary schema (at_places constraints members)
  pub each : AllZip (IsFreeWithout schema constraints members) members without
  pub kept : AreKept schema constraints (length constraints) members
