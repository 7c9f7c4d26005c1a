use Rattle.pc_cells.proofs.Gathered.{gathered_barren}
use Rattle.pc_cells.proofs.gather.with_leaf.Goals as goal

pub returns-in-Barren : goal.returns-in-Barren
returns-in-Barren c = λ leaves gathered. gathered_barren c.args.gathering leaves c.args.leaf c.in-Barren.is gathered
