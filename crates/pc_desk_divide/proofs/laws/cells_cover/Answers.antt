use Rattle.pc_desk_divide.proofs.CellLaws.{cells_in_are, cover_all}
use Rattle.pc_desk_divide.proofs.laws.cells_cover.Goals as goal

pub returns-clause-cover : goal.returns-clause-cover
returns-clause-cover c = λ schema chosen divisions formed area are. cover_all schema chosen formed area divisions are

pub returns-clause-within : goal.returns-clause-within
returns-clause-within c = λ schema chosen divisions formed area are. (cells_in_are schema chosen formed area divisions are).within
