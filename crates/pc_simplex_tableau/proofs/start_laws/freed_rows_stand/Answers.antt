use Rattle.pc_simplex_tableau.proofs.Freed.{IsStanding-freed}
use Rattle.pc_simplex_tableau.proofs.start_laws.freed_rows_stand.Goals as goal

pub returns : goal.returns
returns c = IsStanding-freed
