use Rattle.pc_cells_tree.specs.Knowing.{AreKnown}
use Rattle.pc_cells_tree.specs.Refining.{IsRefining, work_from}
use Rattle.pc_cells_tree.proofs.refine.settled.Given as goal

abbrev pub invariant-loop-place : goal.invariant-loop-place
invariant-loop-place l = IsRefining l.constraints l.chosen l.fn.start l.pass.boxed l.place × AreKnown l.constraints l.pass.boxed.boxes l.pass.known

abbrev pub decreases-loop-place : goal.decreases-loop-place
decreases-loop-place l = work_from l.place l.pass.boxed.boxes
