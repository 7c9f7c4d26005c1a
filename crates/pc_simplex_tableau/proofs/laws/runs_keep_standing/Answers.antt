use Rattle.pc_simplex_tableau.proofs.Steps.{IsEnded-run}
use Rattle.pc_simplex_tableau.proofs.laws.runs_keep_standing.Goals as goal

pub returns : goal.returns
returns c = IsEnded-run
