use Rattle.pc_conflict.proofs.LeavingOut.{possible_still}
use Rattle.pc_conflict.proofs.laws.lists_without_constraints_are_possible.Goals as goal

pub returns : goal.returns
returns c = λ schema whole rest rows part possible. possible_still schema whole rest rows part possible
