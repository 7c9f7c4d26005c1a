use Rattle.pc_branch_licences.proofs.RunCounts.{runs-counted}
use Rattle.pc_branch_licences.proofs.laws.runs_have_their_counts.Goals as goal

pub returns : goal.returns
returns c = runs-counted
