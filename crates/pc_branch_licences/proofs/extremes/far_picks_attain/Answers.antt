use Rattle.pc_branch_licences.proofs.Attaining.{far-min_low, far-max_high}
use Rattle.pc_branch_licences.proofs.extremes.far_picks_attain.Goals as goal

pub returns-clause-min_low : goal.returns-clause-min_low
returns-clause-min_low c = far-min_low

pub returns-clause-max_high : goal.returns-clause-max_high
returns-clause-max_high c = far-max_high
