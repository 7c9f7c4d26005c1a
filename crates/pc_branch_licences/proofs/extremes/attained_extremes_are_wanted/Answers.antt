use Rattle.pc_branch_licences.proofs.Reached.{attained-min_low, attained-max_high, attained-min_high, attained-max_low}
use Rattle.pc_branch_licences.proofs.extremes.attained_extremes_are_wanted.Goals as goal

pub returns-clause-min_low : goal.returns-clause-min_low
returns-clause-min_low c = attained-min_low

pub returns-clause-max_high : goal.returns-clause-max_high
returns-clause-max_high c = attained-max_high

pub returns-clause-min_high : goal.returns-clause-min_high
returns-clause-min_high c = attained-min_high

pub returns-clause-max_low : goal.returns-clause-max_low
returns-clause-max_low c = attained-max_low
