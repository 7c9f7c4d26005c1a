use Rattle.pc_model.specs.Regions.{whole_region}
use Rattle.pc_cells_tree.specs.Refining.{AreBoxesBelow}
use Rattle.pc_cells_tree.proofs.refine.boxes_of.Given as goal

abbrev pub invariant-loop-place : goal.invariant-loop-place
invariant-loop-place l = AreBoxesBelow (whole_region l.schema) l.nodes l.place l.boxes
