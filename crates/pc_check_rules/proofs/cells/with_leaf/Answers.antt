use Rattle.pc_check_rules.proofs.Gathered.{gathered_barren}
use Rattle.pc_check_rules.proofs.cells.with_leaf.Goals as goal

pub returns-in-Barren : goal.returns-in-Barren
returns-in-Barren c = λ leaves gathered. gathered_barren c.args.gathering c.args.column leaves c.args.leaf.now c.in-Barren.is gathered
