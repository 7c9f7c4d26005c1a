use Rattle.pc_proof.proofs.PossibleRows.{rows_are_allocation}
use Rattle.pc_proof.proofs.counting.possible_rows_are_an_allocation.Goals as goal

pub returns : goal.returns
returns c = rows_are_allocation
