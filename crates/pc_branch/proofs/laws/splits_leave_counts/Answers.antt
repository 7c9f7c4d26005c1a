use Rattle.pc_branch.proofs.Points.{split-inside}
use Rattle.pc_branch.proofs.laws.splits_leave_counts.Goals as goal

pub returns : goal.returns
returns c = split-inside
