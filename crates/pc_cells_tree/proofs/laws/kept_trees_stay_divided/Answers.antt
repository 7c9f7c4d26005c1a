use Rattle.pc_cells_tree.proofs.TreeLaws.{kept_stays_divided}
use Rattle.pc_cells_tree.proofs.laws.kept_trees_stay_divided.Goals as goal

pub returns : goal.returns
returns c = kept_stays_divided
