-- When lines that were written as limits limit, and open nothing.
use Rattle.std.specs.Prelude.{◌≡◌, ◌↔◌, ℕ, ◌+◌, ◌<◌, nat_lt, Bool, true, false, List, ◌++◌, All, IsSomeAnd, length, slice_get, if◌then◌else◌}
use Rattle.pc_model.specs.declared.constraint.Constraint.{Constraint}
use Rattle.pc_model.specs.declared.constraint.When.{When}
use Rattle.pc_model.specs.declared.constraint.When.TheVariants as when
use Rattle.pc_model.specs.declared.region.Region.{Region}
use Rattle.pc_model.specs.declared.row.Row.{Row}
use Rattle.pc_model.specs.declared.schema.Schema.{Schema}
use Rattle.pc_model.specs.Accepted.{AreConstraints, IsOutside, constraint_limit}
use Rattle.pc_model.specs.Possible.{IsPossible, Meets}
use Rattle.pc_desk_limit.specs.declared.limiting.Limiting.{Limiting}
use Rattle.pc_desk_limit.specs.declared.limiting.Limiting.TheVariants.{Written, Outside, TooMany}
use Rattle.pc_desk_limit.specs.Closing.{closing_boxes}
use Rattle.pc_desk_limit.specs.Lines.{closing_lines, free_names, lines_for}

-- the lines that close what the limits alone would open
abbrev pub closing_of : Schema → List Constraint → List Constraint → List Constraint
closing_of schema constraints limits =
    closing_lines schema (free_names (constraints ++ limits)) (closing_boxes constraints limits)

-- as many lines as the constraints, the limits and what closes them take
abbrev pub lines_of : List Constraint → List Constraint → ℕ
lines_of constraints limits = length constraints + length limits + lines_for (closing_boxes constraints limits)

-- no row may be lost
abbrev pub IsShut : Constraint → Type 0
IsShut c = (c.least ≡ 0) × (c.most ≡ 0)

-- the constraints allow the rows, and each limit is met
abbrev pub IsPossibleWithin : Schema → List Constraint → List Constraint → List Row → Type 0
IsPossibleWithin schema constraints limits rows =
    IsPossible schema constraints rows × All (λ (c : Constraint). Meets constraints c rows) limits

-- Behind the constraints and the limits stand lines that let no row be lost; and the list allows what the constraints
-- allow, as far as it meets the limits.
pub record IsClosed (schema : Schema) (constraints limits written : List Constraint) : Type 0 where
  pub closing : List Constraint
  pub file : written ≡ constraints ++ (limits ++ closing)
  pub lines : closing ≡ closing_of schema constraints limits
  pub each : All IsShut closing
  pub accepted : AreConstraints schema written
  pub closed : (rows : List Row) →
      (IsPossible schema written rows ↔ IsPossibleWithin schema constraints limits rows)

-- a constraint of the rows outside stands at this place
abbrev pub IsOutsideAt : List Constraint → ℕ → Type 0
IsOutsideAt constraints place = IsSomeAnd (slice_get constraints place) (λ (c : Constraint). IsOutside c.when)

-- what comes of limits behind constraints
abbrev pub IsLimiting : Schema → List Constraint → List Constraint → Limiting → Type 0
IsLimiting schema constraints limits (Written written) = IsClosed schema constraints limits written
IsLimiting schema constraints limits (Outside place) = IsOutsideAt (constraints ++ limits) place
IsLimiting schema constraints limits (TooMany lines) = (constraint_limit < lines) × (lines ≡ lines_of constraints limits)

-- ---- as it is found

abbrev pub is_outside : When → Bool
is_outside (when.Boxes area) = false
is_outside when.Outside = true

abbrev pub NoneIsOutside : List Constraint → Type 0
NoneIsOutside constraints = All (λ (c : Constraint). is_outside c.when ≡ false) constraints

-- the list with lines that close the boxes, or how long it would be
abbrev pub written_of : Schema → List Constraint → List Region → Limiting
written_of schema all boxes =
    if nat_lt constraint_limit (length all + lines_for boxes) then TooMany (length all + lines_for boxes)
    else Written (all ++ closing_lines schema (free_names all) boxes)
