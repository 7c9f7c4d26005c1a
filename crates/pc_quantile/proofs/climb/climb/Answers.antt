use Rattle.std.proofs.Common.{sym, subst}
use Rattle.pc_quantile.specs.Climbing.{IsClimbedSurely, IsHalved, IsStanding, IsSureHalf}
use Rattle.pc_quantile.specs.declared.climb.Climbed.TheVariants as climbs
use Rattle.pc_quantile.specs.Measure.{cells_for}
use Rattle.pc_quantile.proofs.Halving.{last_standing, last_surely}
use Rattle.pc_quantile.proofs.climb.climb.Goals as goal

pub loop-span-smaller : goal.loop-span-smaller
loop-span-smaller c =
    let m = c.args.measure.now in
    let ladder = c.args.ladder.now in
    (subst (IsHalved (cells_for m) m.problem.nodes m.seen.now ladder.extreme m.asked.now ladder.rungs c.args.found c.loop-span.span) c.in-Within.is (c.in_ok-narrower.ensures.halved c.args.found c.loop-span.invariant.0)).1

pub returns-in-Empty-clause-climbed : goal.returns-in-Empty-clause-climbed
returns-in-Empty-clause-climbed c =
    let m = c.args.measure.now in
    let ladder = c.args.ladder.now in
    subst (IsHalved (cells_for m) m.problem.nodes m.seen.now ladder.extreme m.asked.now ladder.rungs c.args.found c.loop-span.span) c.in-Empty.is (c.in_ok-narrower.ensures.halved c.args.found c.loop-span.invariant.0)

pub returns-clause-climbed : goal.returns-clause-climbed
returns-clause-climbed c =
    let m = c.args.measure.now in
    let ladder = c.args.ladder.now in
    subst (IsStanding (cells_for m) m.problem.nodes m.seen.now ladder.extreme m.asked.now ladder.rungs c.args.found) (sym c.standing_of.ensures)
    (last_standing (cells_for m) m.problem.nodes m.seen.now ladder.extreme m.asked.now ladder.rungs c.loop-span.span c.loop-span-test.false c.args.found c.loop-span.invariant.0)

pub loop-span-preserved : goal.loop-span-preserved
loop-span-preserved c =
    let m = c.args.measure.now in
    let ladder = c.args.ladder.now in (
      (subst (IsHalved (cells_for m) m.problem.nodes m.seen.now ladder.extreme m.asked.now ladder.rungs c.args.found c.loop-span.span) c.in-Within.is (c.in_ok-narrower.ensures.halved c.args.found c.loop-span.invariant.0)).0,
      λ nested. subst (IsSureHalf (cells_for m) m.seen.now ladder.extreme m.asked.now ladder.rungs) c.in-Within.is (c.in_ok-narrower.ensures.nested nested (c.loop-span.invariant.1 nested)),
    )

pub returns-clause-nested : goal.returns-clause-nested
returns-clause-nested c = λ nested.
    let m = c.args.measure.now in
    let ladder = c.args.ladder.now in
    subst (λ standing. IsClimbedSurely (cells_for m) m.seen.now ladder.extreme m.asked.now ladder.rungs (climbs.At standing)) (sym c.standing_of.ensures)
    (last_surely (cells_for m) m.problem.nodes m.seen.now ladder.extreme m.asked.now ladder.rungs c.loop-span.span c.loop-span-test.false c.loop-span.invariant.0.ordered (c.loop-span.invariant.1 nested))
