use Rattle.pc_branch_licences.proofs.Attaining.{observed-min_low, observed-max_high}
use Rattle.pc_branch_licences.proofs.extremes.observed_extremes_are_attained.Goals as goal

pub returns-clause-min_low : goal.returns-clause-min_low
returns-clause-min_low c = observed-min_low

pub returns-clause-max_high : goal.returns-clause-max_high
returns-clause-max_high c = observed-max_high
