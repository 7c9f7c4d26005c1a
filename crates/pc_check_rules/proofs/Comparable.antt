-- The boxes of a walk over a tree of cuts have the columns of the constraints and of the area.
use Rattle.std.proofs.Common.{List, All, refl}
use Rattle.pc_model.specs.declared.schema.Schema.{Schema}
use Rattle.pc_model.specs.declared.region.Region.{Region}
use Rattle.pc_model.specs.declared.area.Area.{Area}
use Rattle.pc_model.specs.declared.constraint.Constraint.{Constraint}
use Rattle.pc_model.specs.declared.tree.Cut.{Cut}
use Rattle.pc_model.specs.Boxes.{IsAreaOf, IsServable}
use Rattle.pc_model.specs.Regions.{whole_region}
use Rattle.pc_model.specs.WellFormed.{IsWellFormed}
use Rattle.pc_model.specs.CutTrees.{first_part, second_part, IsProper}
use Rattle.pc_model.proofs.WholeDomain.{whole_is_region}
use Rattle.pc_box.specs.Boxes.{AreAlike}
use Rattle.pc_box.proofs.AlikeAreas.{IsAlikeToArea-from_schema, all_alike-from_schema, IsAlikeToArea-through, all_alike-through}
use Rattle.pc_box.proofs.Likeness.{AreAlike-turned, AreAlike-through}
use Rattle.pc_box.proofs.Schemas.{AreAlike-from_schema}
use Rattle.pc_box.proofs.CutRows.{first_alike, second_alike}
use Rattle.pc_box.proofs.Proper.{Divides-from_proper}
use Rattle.pc_check_rules.specs.CutLines.{IsComparable}

pub whole_comparable : (schema : Schema) (constraints : List Constraint) (area : Area) → IsWellFormed schema → All (IsServable schema) constraints → IsAreaOf schema area
    → IsComparable constraints area (whole_region schema)
whole_comparable schema constraints area formed servable is_area =
    let whole = whole_is_region schema formed in
    record {
      filled = AreAlike-from_schema schema (whole_region schema) (whole_region schema) whole whole;
      each = all_alike-from_schema schema (whole_region schema) whole constraints servable;
      side = IsAlikeToArea-from_schema schema (whole_region schema) whole area is_area;
    }

module _ (constraints : List Constraint) (area : Area) where
  part_comparable : (part piece : Region) → IsComparable constraints area part → AreAlike part piece → IsComparable constraints area piece
  part_comparable part piece fits alike = record {
    filled = AreAlike-through piece part piece (AreAlike-turned part piece alike) alike;
    each = all_alike-through part piece alike constraints fits.each;
    side = IsAlikeToArea-through part piece alike area fits.side;
  }

  -- the parts of a proper cut are compared as the box is
  pub first_comparable : (part : Region) (cut : Cut) → IsComparable constraints area part → IsProper part cut → IsComparable constraints area (first_part part cut)
  first_comparable part cut fits proper =
      part_comparable part (first_part part cut) fits (first_alike part cut (Divides-from_proper part cut proper) (first_part part cut) fits.filled refl)

  pub second_comparable : (part : Region) (cut : Cut) → IsComparable constraints area part → IsProper part cut → IsComparable constraints area (second_part part cut)
  second_comparable part cut fits proper =
      part_comparable part (second_part part cut) fits (second_alike part cut (Divides-from_proper part cut proper) (second_part part cut) fits.filled refl)
