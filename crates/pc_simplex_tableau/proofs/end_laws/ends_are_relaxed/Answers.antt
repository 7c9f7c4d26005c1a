use Rattle.pc_simplex_tableau.proofs.Counted.{vertex}
use Rattle.pc_simplex_tableau.proofs.end_laws.ends_are_relaxed.Goals as goal

pub returns : goal.returns
returns c = vertex
