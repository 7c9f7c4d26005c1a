use Rattle.pc_agg_search.specs.Problem.{setting_of}
use Rattle.pc_agg.proofs.Totals.{settled_by_fewest}
use Rattle.pc_agg.proofs.settling.settle_totals.Goals as goal

pub settled_after-requires-clause-small_most : goal.settled_after-requires-clause-small_most
settled_after-requires-clause-small_most c = (rw c.in-Open.is at c.in_ok-settled.ensures.total).limit_is.small

pub settled_after-requires-clause-small_fewest : goal.settled_after-requires-clause-small_fewest
settled_after-requires-clause-small_fewest c limit is = (rw is at c.in_ok-fewest.ensures.total).limit_is.small

pub returns-clause-settled : goal.returns-clause-settled
returns-clause-settled c =
    rw c.settled_after.ensures
    (settled_by_fewest (setting_of c.args.problem.now) c.args.problem.now.nodes c.in-Open.limit c.in_ok-fewest.fewest
    (rw c.in-Open.is at c.in_ok-settled.ensures.total) c.in_ok-fewest.ensures.total)

pub returns-clause-nested : goal.returns-clause-nested
returns-clause-nested c nested = absurd (rw c.in-Open.is at (c.in_ok-settled.ensures.nested nested))
