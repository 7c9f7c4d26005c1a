use Rattle.pc_quantile.proofs.Outermost.{at_an_end}
use Rattle.pc_quantile.proofs.laws.numbers_at_an_end_are_candidates.Goals as goal

pub returns : goal.returns
returns c = λ s asked lost end list stand. at_an_end s asked lost list.setting list.possible end stand
