use Rattle.pc_branch.proofs.Lefts.{search_left}
use Rattle.pc_branch.proofs.end_laws.searches_show_what_is_left.Goals as goal

pub returns : goal.returns
returns c = search_left
