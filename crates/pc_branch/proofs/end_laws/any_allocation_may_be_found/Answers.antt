use Rattle.pc_branch.proofs.Finding.{found_anew}
use Rattle.pc_branch.proofs.end_laws.any_allocation_may_be_found.Goals as goal

pub returns : goal.returns
returns c = found_anew
