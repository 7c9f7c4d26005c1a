-- How many cuts one more constraint can want of a box that is settled for the others: one for each open face.
use Rattle.std.specs.Prelude.{ℕ, ◌+◌, ◌≤◌, if◌then◌else◌, List}
use Rattle.pc_model.specs.declared.region.Region.{Region}
use Rattle.pc_model.specs.declared.area.Area.{Area}
use Rattle.pc_model.specs.declared.constraint.When.{When}
use Rattle.pc_model.specs.declared.constraint.When.TheVariants.{Boxes, Outside}
use Rattle.pc_model.specs.declared.constraint.Constraint.{Constraint}
use Rattle.pc_model.specs.declared.tree.Cut.{Cut}
use Rattle.pc_model.specs.CutTrees.{IsInsideArea, first_part, second_part}
use Rattle.pc_box.specs.Sides.{regions_meet}
use Rattle.pc_cells_tree.specs.Decisions.{IsComparable, CanBeSettled, IsNeeded}
use Rattle.pc_cells_tree.specs.Stances.{open_faces, box_in}

-- the open faces of the values, as far as the box meets them
abbrev pub value_faces : Region → Region → ℕ
value_faces values part = if regions_meet part values then open_faces part values else 0

-- with those of the one box of a predicate, as far as the box meets it
abbrev pub faces_with : When → ℕ → Region → ℕ
faces_with (Boxes area) more part = if regions_meet part (box_in area.boxes 0) then open_faces part (box_in area.boxes 0) + more else 0
faces_with Outside more part = more

abbrev pub faces_for : Constraint → Region → ℕ
faces_for c part = faces_with c.when (value_faces c.values part) part

-- in boxes that are settled for the rest, each cut that is needed uses up one
abbrev pub IsSpentBy : List Constraint → List Constraint → Area → (Region → ℕ) → Type 0
IsSpentBy rest constraints chosen need = (part : Region) (cut : Cut) → IsComparable constraints chosen part → CanBeSettled rest chosen part → IsInsideArea part chosen → IsNeeded constraints chosen part cut →
    need (first_part part cut) + need (second_part part cut) + 1 ≤ need part
