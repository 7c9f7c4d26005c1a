use Rattle.pc_cells_laws.proofs.LeafRows.{row_of_leaf}
use Rattle.pc_cells_laws.proofs.laws.settled_rows_can_be_lost.Goals as goal

pub returns : goal.returns
returns c = row_of_leaf
