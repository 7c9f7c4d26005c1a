use Rattle.pc_simplex_tableau.proofs.Steps.{IsStanding-pivoted}
use Rattle.pc_simplex_tableau.proofs.laws.pivots_keep_standing.Goals as goal

pub returns : goal.returns
returns c = λ p floors gain f k r t standing. IsStanding-pivoted p floors gain f k r t standing.meant
