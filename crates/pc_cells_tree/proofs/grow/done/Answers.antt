use Rattle.pc_cells_tree.proofs.Straight.{closed-job}
use Rattle.pc_cells_tree.proofs.grow.done.Goals as goal

pub returns-in_ok-growth-in-Close : goal.returns-in_ok-growth-in-Close
returns-in_ok-growth-in-Close c =
    closed-job c.args.constraints.now c.args.chosen.now c.args.work c.args.job c.in-Close.place c.in-Close.cut c.in_ok-growth-in-Close.growth c.in-Close.is c.in_ok-growth-in-Close.ensures.inner
