use Rattle.pc_witness.proofs.Worth.{worth_of-rows}
use Rattle.pc_witness.proofs.laws.allocations_are_worth_their_rows.Goals as goal

pub returns : goal.returns
returns c = worth_of-rows
