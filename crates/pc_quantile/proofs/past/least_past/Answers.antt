use Rattle.pc_quantile.proofs.Measured.{share}
use Rattle.pc_quantile.proofs.past.least_past.Goals as goal

pub sum_past-requires-clause-share : goal.sum_past-requires-clause-share
sum_past-requires-clause-share c = share c.args.measure.now c.requires.measured
