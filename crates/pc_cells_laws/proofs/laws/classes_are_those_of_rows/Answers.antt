use Rattle.pc_cells_laws.proofs.SettledTrees.{classes_of_tree}
use Rattle.pc_cells_laws.proofs.laws.classes_are_those_of_rows.Goals as goal

pub returns : goal.returns
returns c = classes_of_tree
