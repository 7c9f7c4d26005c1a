use Rattle.pc_branch.proofs.Points.{whole-allowed, whole-worth}
use Rattle.pc_branch.proofs.laws.whole_points_are_allocations.Goals as goal

pub returns-clause-allowed : goal.returns-clause-allowed
returns-clause-allowed c = whole-allowed

pub returns-clause-worth : goal.returns-clause-worth
returns-clause-worth c = whole-worth
