use Rattle.std.proofs.Common.{◌≡◌, sym, subst, ◌∙◌, to_z, of_z, arith}
use Rattle.std.specs.Int.{w128}
use Rattle.std.proofs.lemmas.Int.{ints}
use Rattle.pc_proof.specs.Table.{ratio_of}
use Rattle.pc_avg_ratio.specs.Fractional.{over_before}
use Rattle.pc_avg_ratio.specs.Highest.{IsStep}
use Rattle.pc_avg_ratio.proofs.FitNodes.{fit_nodes}
use Rattle.pc_avg_ratio.proofs.Outcomes.{some_bound, small_bound}
use Rattle.pc_avg_ratio.proofs.Passed.{sum_passed, is_above, is_at_most}
use Rattle.pc_avg_ratio.proofs.StepEnds.{reached_by_bound, above_at}
use Rattle.pc_avg_ratio.proofs.steps.end_above.Goals as goal

pub tree_bound-requires-clause-fits : goal.tree_bound-requires-clause-fits
tree_bound-requires-clause-fits c =
    let spent = c.requires.outcome in
    fit_nodes c.args.tree.nodes spent.1.0 spent.1.1.shown.fits

pub unreachable-requires : goal.unreachable-requires
unreachable-requires c =
    let args = c.args in
    let none = sym c.in_ok-most.ensures.bound ∙ c.in-None.is in
    some_bound args.average.now.fraction.now (ratio_of args.standing.ratio) args.program.now c.requires.program args.average.now.nodes args.bound args.tree c.requires.outcome
    args.standing.counts c.requires.standing.ratio.has.lawful none

pub overflow_add-left : goal.overflow_add-left
overflow_add-left c =
    let args = c.args in
    let is = sym c.in_ok-most.ensures.bound ∙ c.in-Some.is in
    let small = small_bound args.average.now.fraction.now (ratio_of args.standing.ratio) args.program.now c.requires.program args.average.now.nodes args.bound args.tree c.requires.outcome
    args.standing.counts c.requires.standing.ratio.has.lawful c.in-Some.most is in
    omega (arith, ints)

pub raised-value-requires-clause-small_left : goal.raised-value-requires-clause-small_left
raised-value-requires-clause-small_left c =
    let args = c.args in
    let is = sym c.in_ok-most.ensures.bound ∙ c.in-Some.is in
    let small = small_bound args.average.now.fraction.now (ratio_of args.standing.ratio) args.program.now c.requires.program args.average.now.nodes args.bound args.tree c.requires.outcome
    args.standing.counts c.requires.standing.ratio.has.lawful c.in-Some.most is in
    omega (arith, ints)

pub returns-then-left-le0 : goal.returns-then-left-le0
returns-then-left-le0 c =
    let args = c.args in
    let r = ratio_of args.standing.ratio in
    let is = sym c.in_ok-most.ensures.bound ∙ c.in-Some.is in
    let small = small_bound args.average.now.fraction.now r args.program.now c.requires.program args.average.now.nodes args.bound args.tree c.requires.outcome
    args.standing.counts c.requires.standing.ratio.has.lawful c.in-Some.most is in
    let left = sum_passed c.over_before.result c.in-Some.most (over_before args.average.now.fraction.now r) c.over_before.ensures.value c.over_before.ensures.small small in
    subst (IsStep args.average.now.fraction.now args.average.now.outermost args.average.now.nodes args.standing) (sym c.reached.ensures)
    (reached_by_bound args.average.now.fraction.now args.average.now.outermost args.average.now.nodes args.standing c.requires.standing args.program.now c.requires.program args.bound args.tree c.requires.outcome
    c.in-Some.most is (is_at_most _ _ (rw left at c.if-left-le0.true)))

pub returns : goal.returns
returns c =
    let args = c.args in
    let r = ratio_of args.standing.ratio in
    let is = sym c.in_ok-most.ensures.bound ∙ c.in-Some.is in
    let small = small_bound args.average.now.fraction.now r args.program.now c.requires.program args.average.now.nodes args.bound args.tree c.requires.outcome
    args.standing.counts c.requires.standing.ratio.has.lawful c.in-Some.most is in
    let left = sum_passed c.over_before.result c.in-Some.most (over_before args.average.now.fraction.now r) c.over_before.ensures.value c.over_before.ensures.small small in
    let end : to_z w128 (of_z w128 args.average.now.outermost) ≡ args.average.now.outermost = omega (arith, ints) in
    let value = c.raised-value in
    above_at args.average.now.fraction.now args.average.now.outermost args.average.now.nodes args.standing c.requires.standing args.program.now c.requires.program args.bound args.tree c.requires.outcome
    c.in-Some.most is (is_above _ _ (rw left at c.if-left-le0.false)) c.requires.under value.result value.ensures.lowest value.ensures.small (rw (left, end) at value.ensures.value)
