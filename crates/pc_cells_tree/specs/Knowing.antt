-- What is known of a box from one that it is a part of, and what is done with the box.
use Rattle.std.specs.Prelude.{◌≡◌, ℕ, ◌<◌, Bool, true, false, not, bit_or, if◌then◌else◌, Option, Some, None, List, length, slice_index_or}
use Rattle.pc_model.specs.declared.region.Region.{Region}
use Rattle.pc_model.specs.declared.area.Area.{Area}
use Rattle.pc_model.specs.declared.constraint.Constraint.{Constraint}
use Rattle.pc_model.specs.Places.{has_bit}
use Rattle.pc_model.specs.Cells.{IsSettledAs}
use Rattle.pc_cells_tree.specs.declared.known.Known.{Known}
use Rattle.pc_cells_tree.specs.declared.decision.Decision.{Decision}
use Rattle.pc_cells_tree.specs.declared.decision.Decision.TheVariants.{Settled, Divided}
use Rattle.pc_cells_tree.specs.Decisions.{HasBitAt, IsNeeded}
use Rattle.pc_cells_tree.specs.Linked.{box_at}

abbrev pub nothing : Known
nothing = record { all = 0; none = 0 }

-- whether a constraint speaks of all rows or of none, where it is known
abbrev pub told : Known → ℕ → Option Bool
told known place = if has_bit known.all place then Some true else (if has_bit known.none place then Some false else None)

-- nothing is known of it yet
abbrev pub is_open : Known → ℕ → Bool
is_open known place = not (has_bit (bit_or known.all known.none) place)

-- what is known of the constraints holds of the box
abbrev pub IsKnown : List Constraint → Region → Known → Type 0
IsKnown constraints part known = (place : ℕ) → place < length constraints → HasBitAt constraints part place (told known place)

abbrev pub IsDecision : List Constraint → Area → Region → Decision → Type 0
IsDecision constraints chosen part (Settled mark) = IsSettledAs constraints chosen part mark
IsDecision constraints chosen part (Divided cut known) = IsNeeded constraints chosen part cut × IsKnown constraints part known

abbrev pub known_at : List Known → ℕ → Known
known_at known k = slice_index_or known k nothing

-- of each box what is known of it
pub record AreKnown (constraints : List Constraint) (boxes : List Region) (known : List Known) : Type 0 where
  pub long : length known ≡ length boxes
  pub each : (k : ℕ) → k < length boxes → IsKnown constraints (box_at boxes k) (known_at known k)
