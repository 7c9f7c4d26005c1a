use Rattle.pc_quantile.proofs.There.{with_least}
use Rattle.pc_quantile.proofs.laws.quantiles_are_there_with_least_numbers.Goals as goal

pub returns : goal.returns
returns c = with_least
