-- One test, and what it makes of what is kept.
use Rattle.std.specs.Prelude.{ℕ, pos, ⊤, List, None, length}
use Rattle.pc_model.specs.declared.schema.Schema.{Schema}
use Rattle.pc_model.specs.declared.constraint.Constraint.{Constraint}
use Rattle.pc_model.specs.declared.query.Agg.TheVariants.{Count}
use Rattle.pc_model.specs.declared.query.Query.{Query}
use Rattle.pc_model.specs.declared.query.Folded.{Folded}
use Rattle.pc_model.specs.Regions.{whole_area}
use Rattle.pc_proof.specs.declared.answer.Relation.{Relation}
use Rattle.pc_proof.specs.declared.answer.Relation.TheVariants as relations
use Rattle.pc_conflict.specs.declared.conflict.Conflict.{Conflict}
use Rattle.pc_conflict.specs.declared.deletion.Deletion.{Deletion}
use Rattle.pc_conflict.specs.declared.deletion.Stepped.{Stepped}
use Rattle.pc_conflict.specs.declared.deletion.Stepped.TheVariants as steps
use Rattle.pc_conflict.specs.declared.testing.Tested.{Tested}
use Rattle.pc_conflict.specs.declared.testing.Tested.TheVariants as tests
use Rattle.pc_conflict.specs.Conflicts.{IsConflict, IsLeftOpen, IsUndecidedAt}
use Rattle.pc_conflict.specs.Deleting.{IsDeletion}
use Rattle.pc_conflict.specs.Deletion.{AreContrary, StandFor}

-- the query by which a test is decided, and what it comes to over no rows
abbrev pub all_rows : Schema → Query
all_rows schema = record { agg = Count; column = None; chosen = whole_area schema; group = None }

abbrev pub none_seen : Folded
none_seen = record { count = 0; sum = pos 0; least = None; greatest = None }

-- ---- one test

abbrev pub IsTested : Schema → List Constraint → ℕ → Tested → Type 0
IsTested schema constraints budget (tests.Possible runs) = StandFor schema constraints runs
IsTested schema constraints budget tests.Impossible = AreContrary schema constraints
IsTested schema constraints budget tests.Undecided = IsLeftOpen schema constraints budget

abbrev pub IsTestedSurely : Tested → Type 0
IsTestedSurely (tests.Possible runs) = ⊤
IsTestedSurely tests.Impossible = ⊤
IsTestedSurely tests.Undecided = ⊥

abbrev pub tested_as : Relation → Tested
tested_as (relations.Possible runs) = tests.Possible runs
tested_as (relations.Impossible why) = tests.Impossible
tested_as relations.Undecided = tests.Undecided

-- ---- one step

-- what is kept of the constraints before a place, or a test that is left open
abbrev pub IsStepped : Schema → List Constraint → ℕ → ℕ → Stepped → Type 0
IsStepped schema constraints budget place (steps.Next deletion) = IsDeletion schema constraints place deletion
IsStepped schema constraints budget place (steps.Undecided tested) = IsUndecidedAt schema constraints budget tested

abbrev pub IsSteppedOn : Stepped → Type 0
IsSteppedOn (steps.Next deletion) = ⊤
IsSteppedOn (steps.Undecided tested) = ⊥

-- the answer where these are kept after the last test
abbrev pub Concludes : List Constraint → Deletion → Conflict → Type 0
Concludes constraints deletion answer =
    (schema : Schema) (budget : ℕ) → IsDeletion schema constraints (length constraints) deletion → IsConflict schema constraints budget answer
