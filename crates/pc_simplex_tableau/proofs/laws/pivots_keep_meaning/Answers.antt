use Rattle.pc_simplex_tableau.proofs.Pivoted.{IsMeant-pivoted}
use Rattle.pc_simplex_tableau.proofs.laws.pivots_keep_meaning.Goals as goal

pub returns : goal.returns
returns c = IsMeant-pivoted
