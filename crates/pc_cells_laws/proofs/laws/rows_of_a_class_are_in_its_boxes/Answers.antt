use Rattle.pc_cells_laws.proofs.SettledTrees.{rows_of_tree}
use Rattle.pc_cells_laws.proofs.laws.rows_of_a_class_are_in_its_boxes.Goals as goal

pub returns : goal.returns
returns c = rows_of_tree
