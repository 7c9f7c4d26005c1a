use Rattle.pc_cells_tree.proofs.TreeLaws.{refined_stays_divided}
use Rattle.pc_cells_tree.proofs.laws.refined_trees_stay_divided.Goals as goal

pub returns : goal.returns
returns c = refined_stays_divided
