use Rattle.pc_agg.proofs.Aiming.{answer_ends}
use Rattle.pc_agg.proofs.bounds.between.Goals as goal

pub both_ends-requires-clause-low : goal.both_ends-requires-clause-low
both_ends-requires-clause-low c = rw (c.as_slice.ensures, c.without_lack-relation.ensures) c.requires.low

pub both_ends-requires-clause-high : goal.both_ends-requires-clause-high
both_ends-requires-clause-high c = rw (c.as_slice.ensures, c.without_lack-relation.ensures) c.requires.high

pub returns : goal.returns
returns c =
    let both = c.in_ok-low.ensures in
    answer_ends c.args.seen.now c.args.agg c.args.settled.relation c.args.settled.found c.args.aims.low c.args.aims.high c.in_ok-low.low c.in_ok-low.high c.answer_over.result
    (rw (c.as_slice.ensures, c.without_lack-relation.ensures) at both.low) (rw (c.as_slice.ensures, c.without_lack-relation.ensures) at both.high) (rw c.without_lack-relation.ensures at c.answer_over.ensures)
