use Rattle.pc_frontier.proofs.Boxed.{trees_boxed}
use Rattle.pc_frontier.proofs.laws.trees_have_boxes.Goals as goal

pub returns : goal.returns
returns c = trees_boxed
