use Rattle.pc_branch_licences.proofs.Attaining.{near-min_high, near-max_low}
use Rattle.pc_branch_licences.proofs.extremes.near_picks_attain.Goals as goal

pub returns-clause-min_high : goal.returns-clause-min_high
returns-clause-min_high c = near-min_high

pub returns-clause-max_low : goal.returns-clause-max_low
returns-clause-max_low c = near-max_low
