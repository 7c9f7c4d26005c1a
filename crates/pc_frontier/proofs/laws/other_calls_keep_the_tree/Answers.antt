use Rattle.pc_frontier.proofs.Keeping.{calls_keep_fit}
use Rattle.pc_frontier.proofs.Trees.{calls_keep_trees}
use Rattle.pc_frontier.proofs.laws.other_calls_keep_the_tree.Goals as goal

pub returns-clause-tree : goal.returns-clause-tree
returns-clause-tree c = calls_keep_trees

pub returns-clause-fit : goal.returns-clause-fit
returns-clause-fit c = calls_keep_fit
