use Rattle.pc_simplex_tableau.proofs.StartSecond.{IsStanding-second}
use Rattle.pc_simplex_tableau.proofs.start_laws.second_phase_stands.Goals as goal

pub returns : goal.returns
returns c = IsStanding-second
