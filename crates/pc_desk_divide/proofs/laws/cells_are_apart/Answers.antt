use Rattle.pc_desk_divide.proofs.CellLaws.{cells_in_are}
use Rattle.pc_desk_divide.proofs.laws.cells_are_apart.Goals as goal

pub returns : goal.returns
returns c = λ schema chosen divisions formed area are. (cells_in_are schema chosen formed area divisions are).apart
