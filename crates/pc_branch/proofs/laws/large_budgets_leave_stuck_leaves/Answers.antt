use Rattle.pc_branch.proofs.Choices.{large-stuck}
use Rattle.pc_branch.proofs.laws.large_budgets_leave_stuck_leaves.Goals as goal

pub returns : goal.returns
returns c = large-stuck
