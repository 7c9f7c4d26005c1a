use Rattle.pc_gen.proofs.Possible.{hidden_are_possible}
use Rattle.pc_gen.proofs.laws.hidden_rows_are_possible.Goals as goal

pub returns : goal.returns
returns c = hidden_are_possible
