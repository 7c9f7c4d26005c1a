use Rattle.pc_cells_tree.proofs.Walked.{closed-step}
use Rattle.pc_cells_tree.proofs.walk.stepped.Goals as goal

pub returns-in_ok-growth-in-Close : goal.returns-in_ok-growth-in-Close
returns-in_ok-growth-in-Close c =
    closed-step c.args.nodes.now c.args.constraints.now c.args.chosen.now c.args.walk c.args.task c.in-Close.place c.in-Close.cut c.in_ok-growth-in-Close.growth c.in-Close.is c.in_ok-growth-in-Close.ensures.inner
