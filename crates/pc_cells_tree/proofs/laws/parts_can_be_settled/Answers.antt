use Rattle.pc_cells_tree.proofs.Parts as parts
use Rattle.pc_cells_tree.proofs.laws.parts_can_be_settled.Goals as goal

pub returns : goal.returns
returns c = parts.parts_can_be_settled
