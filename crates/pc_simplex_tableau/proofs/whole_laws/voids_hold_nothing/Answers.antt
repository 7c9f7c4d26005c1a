use Rattle.pc_simplex_tableau.proofs.WholeEnds.{void_of}
use Rattle.pc_simplex_tableau.proofs.whole_laws.voids_hold_nothing.Goals as goal

pub returns : goal.returns
returns c = void_of
