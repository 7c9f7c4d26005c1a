use Rattle.pc_cells_tree.specs.Stances.{IsStanceFrom}
use Rattle.pc_cells_tree.proofs.area_stance.compare_boxes.Given as goal

abbrev pub invariant-loop-place : goal.invariant-loop-place
invariant-loop-place l = IsStanceFrom l.part l.boxes l.place l.stance
