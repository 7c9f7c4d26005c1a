use Rattle.pc_branch.proofs.Levels.{search_nothing}
use Rattle.pc_branch.proofs.end_laws.searches_show_nothing.Goals as goal

pub returns : goal.returns
returns c = search_nothing
