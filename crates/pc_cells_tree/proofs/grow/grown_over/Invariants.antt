use Rattle.pc_cells_tree.specs.Straight.{IsThriving, efforts}
use Rattle.pc_cells_tree.proofs.grow.grown_over.Given as goal

abbrev pub invariant-loop-job : goal.invariant-loop-job
invariant-loop-job l = IsThriving l.constraints l.chosen l.fn.whole l.work

abbrev pub decreases-loop-job : goal.decreases-loop-job
decreases-loop-job l = efforts l.work.jobs.items
