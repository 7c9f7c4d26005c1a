use Rattle.std.proofs.Common.{◌≡◌, subst, to_z, of_z, arith}
use Rattle.std.specs.Int.{w128}
use Rattle.std.proofs.lemmas.Int.{ints}
use Rattle.pc_avg_ratio.specs.declared.steps.Step.TheVariants.{End}
use Rattle.pc_avg_ratio.specs.Fractional.{ratio_with}
use Rattle.pc_avg_ratio.specs.Highest.{IsStep}
use Rattle.pc_avg_ratio.proofs.StepsOn.{gone_nowhere, gone_on, highest_from}
use Rattle.pc_avg_ratio.proofs.steps.greatest_ratio.Goals as goal

pub loop-next-init : goal.loop-next-init
loop-next-init c =
    let made = c.standing_at-standing.ensures in
    gone_nowhere c.args.f.now c.requires.fractional c.args.start c.standing_at-standing.result made.counts made.limit made.lowest made.ratio

pub take_step-requires-clause-standing : goal.take_step-requires-clause-standing
take_step-requires-clause-standing c = c.loop-next.invariant.stands

pub loop-next-smaller : goal.loop-next-smaller
loop-next-smaller c =
    let step = subst (IsStep c.args.f.now (to_z w128 (of_z w128 c.args.outermost)) c.args.nodes c.loop-next.standing) c.in-Better.is c.in_ok-next.ensures.step in
    step.1

pub loop-next-preserved : goal.loop-next-preserved
loop-next-preserved c =
    let step = subst (IsStep c.args.f.now (to_z w128 (of_z w128 c.args.outermost)) c.args.nodes c.loop-next.standing) c.in-Better.is c.in_ok-next.ensures.step in
    gone_on c.args.f.now (ratio_with c.args.f.now c.args.start) c.requires.some (to_z w128 (of_z w128 c.args.outermost)) c.args.nodes c.loop-next.standing c.loop-next.invariant c.in-Better.next step

pub returns-in-End-clause-highest : goal.returns-in-End-clause-highest
returns-in-End-clause-highest c =
    let end : to_z w128 (of_z w128 c.args.outermost) ≡ c.args.outermost = omega (arith, ints) in
    let step = subst (IsStep c.args.f.now (to_z w128 (of_z w128 c.args.outermost)) c.args.nodes c.loop-next.standing) c.in-End.is c.in_ok-next.ensures.step in
    let here = subst (λ o. IsStep c.args.f.now o c.args.nodes c.loop-next.standing (End c.in-End.highest)) end step in
    highest_from c.args.f.now (ratio_with c.args.f.now c.args.start) c.requires.some c.args.outermost c.args.nodes c.loop-next.standing c.loop-next.invariant c.in-End.highest here
