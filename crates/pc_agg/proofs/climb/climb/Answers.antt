use Rattle.std.proofs.Common.{ap, sym, subst}
use Rattle.pc_agg.specs.Climbing.{IsHalved, IsSureHalf}
use Rattle.pc_agg.specs.Rungs.{IsClimbedSurely, IsStanding}
use Rattle.pc_agg.specs.declared.climb.Climbed.TheVariants as climbs
use Rattle.pc_agg_search.specs.Problem.{setting_of}
use Rattle.pc_agg.proofs.Halving.{last_standing, last_sure}
use Rattle.pc_agg.proofs.Testing.{found_empty, found_last, on_the_way}
use Rattle.pc_agg.proofs.climb.climb.Goals as goal

pub loop-span-smaller : goal.loop-span-smaller
loop-span-smaller c =
    let u = setting_of c.args.problem.now in
    (subst (IsHalved u c.args.problem.now.nodes c.args.ladder.now c.args.want c.args.found c.loop-span.span) c.in-Within.is (c.in_ok-narrower.ensures.halved c.args.found c.loop-span.invariant.0)).1

pub returns-in-Empty-clause-climbed : goal.returns-in-Empty-clause-climbed
returns-in-Empty-clause-climbed c =
    let u = setting_of c.args.problem.now in
    subst (IsHalved u c.args.problem.now.nodes c.args.ladder.now c.args.want c.args.found c.loop-span.span) c.in-Empty.is (c.in_ok-narrower.ensures.halved c.args.found c.loop-span.invariant.0)

pub returns-clause-climbed : goal.returns-clause-climbed
returns-clause-climbed c =
    let u = setting_of c.args.problem.now in
    subst (IsStanding u c.args.problem.now.nodes c.args.ladder.now c.args.want c.args.found) (sym c.standing_of.ensures)
    (last_standing u c.args.problem.now.nodes c.args.ladder.now c.args.want c.loop-span.span c.loop-span-test.false c.args.found c.loop-span.invariant.0)

pub returns-clause-nested : goal.returns-clause-nested
returns-clause-nested c = λ nested.
    let u = setting_of c.args.problem.now in
    subst (λ standing. IsClimbedSurely u c.args.ladder.now c.args.want (climbs.At standing)) (sym c.standing_of.ensures)
    (last_sure u c.args.problem.now.nodes c.args.ladder.now c.args.want c.loop-span.span c.loop-span-test.false c.loop-span.invariant.0.ordered (c.loop-span.invariant.1 nested))

pub loop-span-preserved : goal.loop-span-preserved
loop-span-preserved c =
    let u = setting_of c.args.problem.now in
    let nodes = c.args.problem.now.nodes in
    let ladder = c.args.ladder.now in
    let halved = subst (IsHalved u nodes ladder c.args.want c.args.found c.loop-span.span) c.in-Within.is (c.in_ok-narrower.ensures.halved c.args.found c.loop-span.invariant.0) in (
      halved.0,
      λ nested. subst (IsSureHalf u ladder c.args.want) c.in-Within.is (c.in_ok-narrower.ensures.nested nested (c.loop-span.invariant.1 nested)),
      on_the_way u nodes ladder c.args.want c.args.found c.loop-span.span c.loop-span-test.true c.in_ok-narrower.field-0 c.in_ok-narrower.ensures.tested c.in-Within.narrower c.in-Within.is halved.2 c.loop-span.invariant.2,
    )

pub returns-in-Empty-clause-tests : goal.returns-in-Empty-clause-tests
returns-in-Empty-clause-tests c =
    found_empty (setting_of c.args.problem.now) c.args.problem.now.nodes c.args.ladder.now c.args.want c.args.found c.loop-span.span c.loop-span-test.true c.in_ok-narrower.field-0 c.in_ok-narrower.ensures.tested
    c.in-Empty.tree c.in-Empty.is c.loop-span.invariant.2

pub returns-clause-tests : goal.returns-clause-tests
returns-clause-tests c =
    found_last (setting_of c.args.problem.now) c.args.problem.now.nodes c.args.ladder.now c.args.want c.args.found c.loop-span.span (climbs.At c.standing_of.result)
    (c.loop-span-test.false, ap climbs.At c.standing_of.ensures) c.loop-span.invariant.2
