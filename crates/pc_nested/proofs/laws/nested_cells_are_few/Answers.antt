use Rattle.pc_nested.proofs.Few.{few_cells}
use Rattle.pc_nested.proofs.laws.nested_cells_are_few.Goals as goal

pub returns : goal.returns
returns c = few_cells
