use Rattle.pc_branch_licences.proofs.Trees.{search-free}
use Rattle.pc_branch_licences.proofs.laws.search_trees_need_no_value.Goals as goal

pub returns : goal.returns
returns c = search-free
