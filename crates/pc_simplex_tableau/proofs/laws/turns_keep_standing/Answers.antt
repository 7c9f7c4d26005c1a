use Rattle.pc_simplex_tableau.proofs.Steps.{IsStanding-turned}
use Rattle.pc_simplex_tableau.proofs.laws.turns_keep_standing.Goals as goal

pub returns : goal.returns
returns c = λ p floors gain f k u t standing. IsStanding-turned p floors gain f k u t standing.meant
