-- What a question comes to as constraints stand, and under each change of one limit.
use Rattle.std.specs.Prelude.{◌≡◌, ℕ, List, [], ◌∷◌, map, Option, Some, None}
use Rattle.std.specs.List.{AllZip}
use Rattle.pc_model.specs.declared.constraint.Constraint.{Constraint}
use Rattle.pc_model.specs.declared.schema.Schema.{Schema}
use Rattle.pc_desk_table.specs.declared.entry.Entry.{Entry}
use Rattle.pc_desk_answers.specs.Blocks.{AreShown, Asked, Ground, ground_under}
use Rattle.pc_desk_weigh.specs.declared.change.Change.{Change}
use Rattle.pc_desk_weigh.specs.declared.weighed.Weighed.{Weighed}
use Rattle.pc_desk_weigh.specs.Changes.{changed, changes_of}

-- the constraints as they stand, or after a change
abbrev pub constraints_under : Schema → List Constraint → Option Change → List Constraint
constraints_under schema constraints None = constraints
constraints_under schema constraints (Some change) = changed schema constraints change

-- nothing is changed, and then one limit after the other
abbrev pub all_changes : Schema → List Constraint → Option ℕ → List (Option Change)
all_changes schema constraints asked = None ∷ map Some (changes_of schema constraints asked)

-- the entries show the answers to what is asked, of the case whose one constraint is changed so
pub record IsWeighed (ground : Ground) (wanted : List Asked) (change : Option Change) (weighed : Weighed) : Type 0 where
  pub of_change : weighed.change ≡ change
  pub shown : AreShown (ground_under ground (constraints_under ground.schema ground.constraints change)) wanted weighed.entries

-- .. one for each change
abbrev pub AreWeighed : Ground → List Asked → Option ℕ → List Weighed → Type 0
AreWeighed ground wanted asked all = AllZip (IsWeighed ground wanted) (all_changes ground.schema ground.constraints asked) all

-- ---- each change beside its entries

abbrev pub weighed_with : Option Change → List Entry → Weighed
weighed_with change entries = record { change = change; entries = entries }

unfoldable pub weighed_of : List (Option Change) → List (List Entry) → List Weighed
weighed_of [] answers = []
weighed_of (change ∷ changes) [] = []
weighed_of (change ∷ changes) (entries ∷ answers) = weighed_with change entries ∷ weighed_of changes answers
