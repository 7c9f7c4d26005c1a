use Rattle.pc_agg_search.proofs.Posing.{asked}
use Rattle.pc_agg.proofs.extremes.bound_min.Goals as goal

pub bound_extreme-requires-clause-asked : goal.bound_extreme-requires-clause-asked
bound_extreme-requires-clause-asked c = asked _ c.args.seen.now c.requires.asked
