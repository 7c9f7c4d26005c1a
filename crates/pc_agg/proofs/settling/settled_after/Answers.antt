use Rattle.pc_agg.proofs.settling.settled_after.Goals as goal

pub left_open-requires-clause-small_fewest : goal.left_open-requires-clause-small_fewest
left_open-requires-clause-small_fewest c = c.requires.small_fewest c.in-Open.fewest c.in-Open.is
