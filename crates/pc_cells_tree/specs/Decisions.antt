-- What constraints say of a box, and what is done with it.
use Rattle.std.specs.Prelude.{◌≡◌, ℕ, ◌+◌, ◌*◌, ◌<◌, ◌≤◌, ◌^◌, ⊤, ◌⊎◌, Bool, cond, List, length, drop, All, Any, Option, MatchOption, slice_index_or}
use Rattle.pc_model.specs.declared.region.Region.{Region}
use Rattle.pc_model.specs.declared.area.Area.{Area}
use Rattle.pc_model.specs.declared.constraint.When.{When}
use Rattle.pc_model.specs.declared.constraint.When.TheVariants.{Boxes, Outside}
use Rattle.pc_model.specs.declared.constraint.Constraint.{Constraint}
use Rattle.pc_model.specs.declared.tree.Cut.{Cut}
use Rattle.pc_model.specs.declared.tree.LeafMark.{LeafMark}
use Rattle.pc_model.specs.Accepted.{constraint_limit}
use Rattle.pc_model.specs.Cells.{SpeaksOfAll, SpeaksOfNone, IsUnder, IsRuledOut, IsSettledAt, IsSettledAs}
use Rattle.pc_box.specs.Boxes.{IsBox, IsAlikeToArea, IsAlikeTo}
use Rattle.pc_box.specs.Cuts.{Divides}
use Rattle.pc_cells_tree.specs.Stances.{column_limit, IsCutThrough, IsCutThroughArea}
use Rattle.pc_cells_tree.specs.Standings.{IsCrossing, crossed_in, HasRegion, is_before}
use Rattle.pc_cells_tree.specs.declared.standing.Crossing.{Crossing}
use Rattle.pc_cells_tree.specs.declared.decision.Finding.{Finding}
use Rattle.pc_cells_tree.specs.declared.decision.Finding.TheVariants.{Broken, Crossed, Under}

-- the box has rows, and the boxes of all constraints and of the chosen area have its columns
pub record IsComparable (constraints : List Constraint) (chosen : Area) (part : Region) : Type 0 where
  pub few : length part.sides ≤ column_limit
  pub filled : IsBox part
  pub each : All (IsAlikeTo part) constraints
  pub side : IsAlikeToArea part chosen

-- ---- what the constraints from a place on say

-- each of some constraints of a list speaks of all rows of the box or of none, as the mask says
pub record IsMaskOf (all : List Constraint) (part : Region) (constraints : List Constraint) (mask : ℕ) : Type 0 where
  pub short : mask < 2 ^ length constraints
  pub each : (place : ℕ) (c : Constraint) → place < length constraints → IsSettledAt all part mask place (slice_index_or constraints place c)

-- the region that is crossed, which is there
abbrev pub IsRegionOf : List Constraint → Crossing → Region → Type 0
IsRegionOf constraints crossing region = (c : Constraint) → region ≡ crossed_in crossing (slice_index_or constraints crossing.place c)

abbrev pub HasRegionIn : List Constraint → Crossing → Type 0
HasRegionIn constraints crossing = (c : Constraint) → HasRegion crossing (slice_index_or constraints crossing.place c)

abbrev pub IsFound : Region → List Constraint → ℕ → Finding → Type 0
IsFound part constraints from Broken = Any (IsRuledOut constraints part) constraints
IsFound part constraints from (Crossed crossing) = IsCrossing constraints part crossing × (Any (IsRuledOut constraints part) (drop from constraints) → ⊥)
IsFound part constraints from (Under mask) = IsMaskOf constraints part (drop from constraints) mask

-- a constraint speaks of all rows of the box or of none, as the bit says, where one is told
abbrev pub HasBitAt : List Constraint → Region → ℕ → Option Bool → Type 0
HasBitAt all part place told =
    MatchOption told ⊤ (λ bit. (c : Constraint) → cond bit (IsUnder all part (slice_index_or all place c)) (SpeaksOfNone all part (slice_index_or all place c)))

-- a mask to which a bit can be added
abbrev pub HasShortMask : Finding → Type 0
HasShortMask Broken = ⊤
HasShortMask (Crossed crossing) = ⊤
HasShortMask (Under mask) = mask < 2 ^ constraint_limit

-- with a constraint before the others that speaks of all rows or of none
abbrev pub with_bit : Bool → Finding → Finding
with_bit bit Broken = Broken
with_bit bit (Crossed crossing) = Crossed crossing
with_bit bit (Under mask) = Under (2 * mask + cond bit 1 0)

-- with one before them that is crossed: of two the one that comes first is kept, and the new one of equals
abbrev pub IsWithCrossing : Crossing → Finding → Finding → Type 0
IsWithCrossing crossing Broken with_it = with_it ≡ Broken
IsWithCrossing crossing (Crossed other) with_it = with_it ≡ Crossed (cond (is_before other crossing) other crossing)
IsWithCrossing crossing (Under mask) with_it = with_it ≡ Crossed crossing

-- ---- what is done

-- some mark fits the box
abbrev pub CanBeSettled : List Constraint → Area → Region → Type 0
CanBeSettled constraints chosen part = (mark : LeafMark) × IsSettledAs constraints chosen part mark

-- the cut goes through the area that a predicate names
abbrev pub IsCutThroughWhen : Region → When → Cut → Type 0
IsCutThroughWhen part (Boxes area) cut = IsCutThroughArea part area cut
IsCutThroughWhen part Outside cut = ⊥

-- the cut goes through the constraint's values, where it speaks of all rows of the box, or through the area that it names
abbrev pub IsCutFor : List Constraint → Region → Cut → Constraint → Type 0
IsCutFor all part cut c = (SpeaksOfAll all part c × IsCutThrough part c.values cut) ⊎ IsCutThroughWhen part c.when cut

-- the cut divides a box that no mark fits, along a region that the box crosses
pub record IsNeeded (constraints : List Constraint) (chosen : Area) (part : Region) (cut : Cut) : Type 0 where
  pub divides : Divides part cut
  pub open_still : CanBeSettled constraints chosen part → ⊥
  pub through : Any (IsCutFor constraints part cut) constraints ⊎ IsCutThroughArea part chosen cut
