use Rattle.pc_quantile.proofs.Within.{bounded_above, bounded_below, contained}
use Rattle.pc_quantile.proofs.laws.programs_bound_quantiles.Goals as goal

pub returns-clause-above : goal.returns-clause-above
returns-clause-above c = λ s asked lost v list bounds. bounded_above s asked list.setting lost v list.possible bounds

pub returns-clause-below : goal.returns-clause-below
returns-clause-below c = λ s asked lost v list bounds. bounded_below s asked list.setting lost v list.possible bounds

pub returns-clause-both : goal.returns-clause-both
returns-clause-both c = contained
