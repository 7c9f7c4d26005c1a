use Rattle.pc_simplex_tableau.proofs.Voids.{void_of-helper}
use Rattle.pc_simplex_tableau.proofs.end_laws.helpers_left_mean_void.Goals as goal

pub returns : goal.returns
returns c = void_of-helper
