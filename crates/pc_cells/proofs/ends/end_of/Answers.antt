use Rattle.pc_cells.proofs.Extremes.{end_step}
use Rattle.pc_cells.proofs.ends.end_of.Goals as goal

pub loop-leaf-preserved : goal.loop-leaf-preserved
loop-leaf-preserved c = end_step c.args.low c.args.column c.args.leaves.now c.loop-leaf.leaf c.index-leaves-leaf.result c.loop-leaf.end c.further_end-end.result c.loop-leaf-test.true c.index-leaves-leaf.is c.loop-leaf.invariant c.further_end-end.ensures
