-- Which constraints let rows be lost that no other speaks of, beside constraints that they cross.
use Rattle.std.specs.Prelude.{◌≡◌, ◌↔◌, ℕ, zero, suc, ◌<◌, ◌==◌, ◌&&◌, ◌||◌, not, cond, Bool, true, false, List, [], ◌∷◌, ◌++◌, get_or, length}
use Rattle.std.specs.List.{list_any}
use Rattle.pc_model.specs.declared.constraint.Constraint.{Constraint}
use Rattle.pc_model.specs.declared.row.Row.{Row}
use Rattle.pc_model.specs.declared.schema.Schema.{Schema}
use Rattle.pc_model.specs.Cells.{mask_of}
use Rattle.pc_model.specs.Places.{has_bit}
use Rattle.pc_desk_try.specs.declared.opening.Opening.{Opening}
use Rattle.pc_desk_try.specs.Openings.{CanBeLost}

-- of so many constraints just the one at this place has its bit set
abbrev pub IsAlone : ℕ → ℕ → ℕ → Type 0
IsAlone count place mask = (k : ℕ) → k < count → has_bit mask k ≡ (k == place)

-- both bits are set
abbrev pub has_both : ℕ → ℕ → ℕ → Bool
has_both place other mask = has_bit mask place && has_bit mask other

-- the second is set, and the first is not
abbrev pub has_second : ℕ → ℕ → ℕ → Bool
has_second place other mask = not (has_bit mask place) && has_bit mask other

-- a row that can be lost, of which the constraint at this place speaks and no other
pub record SpeaksAlone (schema : Schema) (constraints : List Constraint) (place : ℕ) : Type 0 where
  pub row : Row
  pub lost : CanBeLost schema constraints row
  pub alone : IsAlone (length constraints) place (mask_of constraints row)

-- a row that can be lost and passes a test of the constraints that speak of it
pub record HasRowFor (schema : Schema) (constraints : List Constraint) (test : ℕ → Bool) : Type 0 where
  pub row : Row
  pub lost : CanBeLost schema constraints row
  pub passes : test (mask_of constraints row) ≡ true

-- another constraint: of some row that can be lost both speak, and of some the other alone of the two
pub record Crosses (schema : Schema) (constraints : List Constraint) (place : ℕ) : Type 0 where
  pub other : ℕ
  pub inside : other < length constraints
  pub both : HasRowFor schema constraints (has_both place other)
  pub beyond : HasRowFor schema constraints (has_second place other)

-- It lets rows be lost that no other speaks of, and crosses another. Constraints that are apart, or one of which is within the
-- other, do not cross.
abbrev pub OpensBeside : Schema → List Constraint → ℕ → Type 0
OpensBeside schema constraints place = SpeaksAlone schema constraints place × Crosses schema constraints place

-- for each constraint whether it does
pub record AreBeside (schema : Schema) (constraints : List Constraint) (truths : List Bool) : Type 0 where
  pub many : length truths ≡ length constraints
  pub each : (place : ℕ) → place < length constraints → (get_or truths place false ≡ true ↔ OpensBeside schema constraints place)

-- ---- by the classes that constraints open

-- the bit of a place is set where the place is this one
abbrev pub is_as_alone : ℕ → ℕ → ℕ → Bool
is_as_alone place mask k = cond (k == place) (has_bit mask k) (not (has_bit mask k))

-- .. of so many places
abbrev pub is_alone : ℕ → ℕ → ℕ → Bool
is_alone zero place mask = true
is_alone (suc count) place mask = is_alone count place mask && is_as_alone place mask count

abbrev pub has_class : (ℕ → Bool) → List Opening → Bool
has_class test openings = list_any (λ (opening : Opening). test opening.mask) openings

abbrev pub crosses : List Opening → ℕ → ℕ → Bool
crosses openings place other = has_class (has_both place other) openings && has_class (has_second place other) openings

-- some constraint of so many
abbrev pub crosses_some : List Opening → ℕ → ℕ → Bool
crosses_some openings place zero = false
crosses_some openings place (suc count) = crosses_some openings place count || crosses openings place count

abbrev pub opens_beside : List Opening → ℕ → ℕ → Bool
opens_beside openings count place = has_class (is_alone count place) openings && crosses_some openings place count

-- of so many constraints the truths of the first ones
abbrev pub truths_below : List Opening → ℕ → ℕ → List Bool
truths_below openings count zero = []
truths_below openings count (suc places) = truths_below openings count places ++ opens_beside openings count places ∷ []
