use Rattle.pc_branch_licences.proofs.Found.{shown-found}
use Rattle.pc_branch_licences.proofs.laws.found_counts_are_all_that_is_shown.Goals as goal

pub returns : goal.returns
returns c = shown-found
