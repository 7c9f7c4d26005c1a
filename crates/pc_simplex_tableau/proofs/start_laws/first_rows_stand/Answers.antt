use Rattle.pc_simplex_tableau.proofs.Start.{IsStanding-start}
use Rattle.pc_simplex_tableau.proofs.start_laws.first_rows_stand.Goals as goal

pub returns : goal.returns
returns c = λ p floors caps program box. IsStanding-start p floors caps
