use Rattle.pc_frontier.proofs.Trees.{splits_divide}
use Rattle.pc_frontier.proofs.laws.splits_divide_a_leaf.Goals as goal

pub returns : goal.returns
returns c = splits_divide
