use Rattle.pc_branch.proofs.Levels.{search_best}
use Rattle.pc_branch.proofs.end_laws.searches_show_the_best.Goals as goal

pub returns : goal.returns
returns c = search_best
