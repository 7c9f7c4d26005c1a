-- What a line of a tree of cuts is tried with: a box whose columns are those of the constraints and of the area.
use Rattle.std.specs.Prelude.{List, All}
use Rattle.pc_model.specs.declared.region.Region.{Region}
use Rattle.pc_model.specs.declared.area.Area.{Area}
use Rattle.pc_model.specs.declared.constraint.Constraint.{Constraint}
use Rattle.pc_box.specs.Boxes.{IsBox, IsAlikeTo, IsAlikeToArea}

-- no side of the box is empty, and all constraints and the asked area have its columns
pub record IsComparable (constraints : List Constraint) (area : Area) (part : Region) : Type 0 where
  pub filled : IsBox part
  pub each : All (IsAlikeTo part) constraints
  pub side : IsAlikeToArea part area
