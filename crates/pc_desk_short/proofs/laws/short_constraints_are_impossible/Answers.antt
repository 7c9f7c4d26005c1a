use Rattle.pc_desk_short.proofs.Impossible.{short_is_impossible}
use Rattle.pc_desk_short.proofs.laws.short_constraints_are_impossible.Goals as goal

pub returns : goal.returns
returns c = λ schema constraints weights short rows possible. short_is_impossible schema constraints rows possible weights short
