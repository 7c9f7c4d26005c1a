use Rattle.pc_branch_licences.proofs.Trees.{licence-open}
use Rattle.pc_branch_licences.proofs.laws.licences_leave_open.Goals as goal

pub returns : goal.returns
returns c = licence-open
