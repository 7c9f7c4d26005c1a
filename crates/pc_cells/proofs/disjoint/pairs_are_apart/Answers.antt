use Rattle.pc_cells.proofs.Apart.{alike_before, not_apart, all_apart}
use Rattle.pc_cells.proofs.disjoint.pairs_are_apart.Goals as goal

pub is_apart_from-requires : goal.is_apart_from-requires
is_apart_from-requires c = record { alike = alike_before c.args.constraints.now c.loop-place.place c.index-constraints-place.result c.loop-place-test.true c.index-constraints-place.is c.requires.of_one_schema }

pub returns-then-not-is_apart_from : goal.returns-then-not-is_apart_from
returns-then-not-is_apart_from c = not_apart c.args.constraints.now c.loop-place.place c.index-constraints-place.result c.loop-place-test.true c.index-constraints-place.is c.is_apart_from.result c.is_apart_from.ensures c.if-not-is_apart_from.true

pub returns : goal.returns
returns c = all_apart c.args.constraints.now c.loop-place.place c.loop-place-test.false c.loop-place.invariant
