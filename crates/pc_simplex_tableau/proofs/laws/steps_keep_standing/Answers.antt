use Rattle.pc_simplex_tableau.proofs.Steps.{IsStanding-step}
use Rattle.pc_simplex_tableau.proofs.laws.steps_keep_standing.Goals as goal

pub returns : goal.returns
returns c = IsStanding-step
