use Rattle.pc_simplex_tableau.proofs.Turned.{IsMeant-turned}
use Rattle.pc_simplex_tableau.proofs.laws.turns_keep_meaning.Goals as goal

pub returns : goal.returns
returns c = IsMeant-turned
