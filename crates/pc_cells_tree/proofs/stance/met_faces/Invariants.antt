use Rattle.std.proofs.Common.{◌≡◌, ◌+◌, drop}
use Rattle.std.specs.Cmp.Lexicographic.{pointwise}
use Rattle.pc_box.specs.Sides.{sides_meet}
use Rattle.pc_cells_tree.specs.Stances.{faces_of}
use Rattle.pc_cells_tree.proofs.stance.met_faces.Given as goal

abbrev pub invariant-loop-place : goal.invariant-loop-place
invariant-loop-place l = (pointwise sides_meet l.sides l.others ≡ pointwise sides_meet (drop l.place l.sides) (drop l.place l.others)) × (l.faces + faces_of (drop l.place l.sides) (drop l.place l.others) ≡ faces_of l.sides l.others)
