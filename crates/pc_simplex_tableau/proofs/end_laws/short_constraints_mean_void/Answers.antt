use Rattle.pc_simplex_tableau.proofs.Shorts.{void_at_once}
use Rattle.pc_simplex_tableau.proofs.end_laws.short_constraints_mean_void.Goals as goal

pub returns : goal.returns
returns c = λ p floors caps j program. void_at_once p floors caps j
