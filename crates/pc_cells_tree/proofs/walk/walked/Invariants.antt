use Rattle.pc_cells_tree.specs.Walking.{IsUnderWay, efforts}
use Rattle.pc_cells_tree.proofs.walk.walked.Given as goal

abbrev pub invariant-loop-task : goal.invariant-loop-task
invariant-loop-task l = IsUnderWay l.nodes l.constraints l.chosen l.fn.whole l.walk

abbrev pub decreases-loop-task : goal.decreases-loop-task
decreases-loop-task l = efforts l.walk.tasks.items
