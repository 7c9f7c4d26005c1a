use Rattle.pc_agg_search.proofs.Posing.{asked}
use Rattle.pc_agg.proofs.bounds.bound_count.Goals as goal

pub bound-requires-clause-asked : goal.bound-requires-clause-asked
bound-requires-clause-asked c = asked _ c.args.seen.now c.requires.asked
