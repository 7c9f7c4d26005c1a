use Rattle.pc_quantile.proofs.Outermost.{under_highest, over_lowest}
use Rattle.pc_quantile.proofs.laws.numbers_are_within_the_candidates.Goals as goal

pub returns-clause-high : goal.returns-clause-high
returns-clause-high c = λ s asked lost most list each. under_highest s asked lost list.setting list.possible most each

pub returns-clause-low : goal.returns-clause-low
returns-clause-low c = λ s asked lost least list each. over_lowest s asked lost list.setting list.possible least each
