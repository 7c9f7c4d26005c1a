-- A mark that fits a box fits each part of it.
use Rattle.std.proofs.Common.{Bool, true, false, cond, inl, inr, List}
use Rattle.pc_model.specs.declared.region.Region.{Region}
use Rattle.pc_model.specs.declared.area.Area.{Area}
use Rattle.pc_model.specs.declared.constraint.When.{When}
use Rattle.pc_model.specs.declared.constraint.When.TheVariants.{Boxes, Outside}
use Rattle.pc_model.specs.declared.constraint.Constraint.{Constraint}
use Rattle.pc_model.specs.declared.tree.LeafMark.{LeafMark}
use Rattle.pc_model.specs.declared.tree.LeafMark.TheVariants.{Barren, Class}
use Rattle.pc_model.specs.Places.{has_bit}
use Rattle.pc_model.specs.CutTrees.{IsInside, IsApart, IsInsideArea, IsApartFromArea}
use Rattle.pc_model.specs.Cells.{IsInsideNamed, IsApartFromNamed, IsInsideWhen, IsApartFromWhen, IsUnder, SpeaksOfNone, IsSettledSide, IsSettledAs}
use Rattle.pc_cells_tree.specs.Decisions.{CanBeSettled}

module _ (box part : Region) (inner : IsInside part box) where
  within : (region : Region) → IsInside box region → IsInside part region
  within region inside row held = inside row (inner row held)

  beyond : (region : Region) → IsApart box region → IsApart part region
  beyond region apart row held = apart row (inner row held)

  pub within_area : (area : Area) → IsInsideArea box area → IsInsideArea part area
  within_area area (k, region, there, is, inside) = (k, region, there, is, within region inside)

  beyond_area : (area : Area) → IsApartFromArea box area → IsApartFromArea part area
  beyond_area area apart = λ k d there. beyond _ (apart k d there)

  within_named : (when : When) → IsInsideNamed box when → IsInsideNamed part when
  within_named (Boxes area) inside = within_area area inside
  within_named Outside inside = absurd inside

  beyond_named : (when : When) → IsApartFromNamed box when → IsApartFromNamed part when
  beyond_named (Boxes area) apart = beyond_area area apart
  beyond_named Outside apart = apart

  module _ (all : List Constraint) where
    within_when : (when : When) → IsInsideWhen all box when → IsInsideWhen all part when
    within_when (Boxes area) inside = within_area area inside
    within_when Outside beside = λ k d there. beyond_named _ (beside k d there)

    beyond_when : (when : When) → IsApartFromWhen all box when → IsApartFromWhen all part when
    beyond_when (Boxes area) apart = beyond_area area apart
    beyond_when Outside (k, c, there, is, named) = (k, c, there, is, within_named c.when named)

    pub at_place : (bit : Bool) (c : Constraint) → cond bit (IsUnder all box c) (SpeaksOfNone all box c) → cond bit (IsUnder all part c) (SpeaksOfNone all part c)
    at_place true c under = record { when = within_when c.when under.when; values = within c.values under.values }
    at_place false c none = beyond_when c.when none

  on_side : (chosen : Bool) (area : Area) → IsSettledSide box area chosen → IsSettledSide part area chosen
  on_side true area inside = within_area area inside
  on_side false area apart = beyond_area area apart

  by_mark : (constraints : List Constraint) (area : Area) (mark : LeafMark) → IsSettledAs constraints area box mark → IsSettledAs constraints area part mark
  by_mark constraints area Barren (inl (k, c, there, is, ruled)) = inl (k, c, there, is, (within_when constraints c.when ruled.0, beyond c.values ruled.1))
  by_mark constraints area Barren (inr none) = inr (λ k d there. beyond_when constraints _ (none k d there))
  by_mark constraints area (Class mask chosen) is = record {
    some = is.some;
    short = is.short;
    each = λ place c there. at_place constraints (has_bit mask place) _ (is.each place c there);
    side = on_side chosen area is.side;
  }

pub parts_can_be_settled : (constraints : List Constraint) (chosen : Area) (box part : Region) → CanBeSettled constraints chosen box → IsInside part box → CanBeSettled constraints chosen part
parts_can_be_settled constraints chosen box part settled inner = (settled.0, by_mark box part inner constraints chosen settled.0 settled.1)
