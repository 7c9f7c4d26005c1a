use Rattle.std.proofs.Common.{ℕ, List, Option, ◌-◌, refl, ap, sym, subst, ◌∙◌, arith}
use Rattle.std.proofs.lemmas.Int.{ints}
use Rattle.pc_program_bound.specs.Allocation.{constraints_of}
use Rattle.pc_branch.specs.Outcome.{IsOutcome}
use Rattle.pc_branch.specs.declared.outcome.Outcome.TheVariants.{Spent}
use Rattle.pc_agg_search.specs.Flat.{flat_tree}
use Rattle.pc_proof.specs.Table.{ratio_of}
use Rattle.pc_avg_ratio.specs.Fractional.{over_before, IsLawful}
use Rattle.pc_avg_ratio.specs.Highest.{IsShown, IsStep}
use Rattle.pc_avg_ratio.proofs.Excess.{above_have_rows}
use Rattle.pc_avg_ratio.proofs.FlatAt.{flat_shown}
use Rattle.pc_avg_ratio.proofs.Limits.{from_above, limits_stay}
use Rattle.pc_avg_ratio.proofs.Outcomes.{spent_small, spent_within, found_counts}
use Rattle.pc_avg_ratio.proofs.Passed.{sum_passed, product_small, over_passed, is_above, is_at_most}
use Rattle.pc_avg_ratio.proofs.PassedProducts.{as_it_is, product_fits, product_is}
use Rattle.pc_avg_ratio.proofs.StepEnds.{better_at, reached_at, shown_within}
use Rattle.pc_avg_ratio.proofs.steps.after_spent.Goals as goal

pub overflow_add-over_before : goal.overflow_add-over_before
overflow_add-over_before c =
    let small = spent_small c.args.average.now.fraction.now (ratio_of c.args.standing.ratio) c.args.program.now c.requires.program c.args.average.now.nodes c.args.spent.bound c.args.spent.found c.args.spent.tree c.requires.outcome in
    omega (arith, ints)

pub returns-then-over_before-bound-le0 : goal.returns-then-over_before-bound-le0
returns-then-over_before-bound-le0 c =
    let f = c.args.average.now.fraction.now in
    let r = ratio_of c.args.standing.ratio in
    let small = spent_small f r c.args.program.now c.requires.program c.args.average.now.nodes c.args.spent.bound c.args.spent.found c.args.spent.tree c.requires.outcome in
    let sum = sum_passed c.over_before.result c.args.spent.bound (over_before f r) c.over_before.ensures.value c.over_before.ensures.small small in
    let within = spent_within c.args.program.now c.args.average.now.nodes c.args.spent.bound c.args.spent.found c.args.spent.tree c.requires.outcome in
    let shown = shown_within f c.args.average.now.outermost c.args.average.now.nodes r c.args.program.now c.requires.program c.args.spent.tree c.args.spent.bound within
    (is_at_most _ _ (rw sum at c.if-over_before-bound-le0.true)) in
    subst (IsStep f c.args.average.now.outermost c.args.average.now.nodes c.args.standing) (sym c.reached.ensures)
    (reached_at f c.args.average.now.outermost c.args.average.now.nodes c.args.standing c.requires.standing c.args.spent.tree shown)

pub overflow_mul-average : goal.overflow_mul-average
overflow_mul-average c =
    let ratio = c.requires.standing.ratio in
    product_fits c.args.average.now.outermost c.args.standing.ratio.den (product_small c.args.average.now.outermost c.args.standing.ratio.den c.requires.asked.outermost.small ratio.positive ratio.small_den)

pub returns-then-average-ratio : goal.returns-then-average-ratio
returns-then-average-ratio c =
    let f = c.args.average.now.fraction.now in
    let r = ratio_of c.args.standing.ratio in
    let ratio = c.requires.standing.ratio in
    let product = product_is c.args.average.now.outermost c.args.standing.ratio.den (product_small c.args.average.now.outermost c.args.standing.ratio.den c.requires.asked.outermost.small ratio.positive ratio.small_den) in
    let num = as_it_is c.args.standing.ratio.num (let small = ratio.small_num in omega (arith, small)) in
    let shown = flat_shown f c.requires.asked.fractional c.args.average.now.outermost c.requires.asked.outermost r (let above = ratio.positive in omega (arith, ints)) (is_at_most _ _ (rw (product, num) at c.if-average-ratio.true))
    c.args.program.now c.requires.program c.args.average.now.nodes (constraints_of c.args.program.now) refl c.requires.asked.nodes.0 in
    subst (IsStep f c.args.average.now.outermost c.args.average.now.nodes c.args.standing) (sym c.reached-then-average-ratio.ensures)
    (reached_at f c.args.average.now.outermost c.args.average.now.nodes c.args.standing c.requires.standing c.in_ok-tree.tree
    (subst (IsShown f c.args.average.now.outermost c.args.average.now.nodes r) (ap flat_tree (sym c.len.ensures) ∙ sym c.in_ok-tree.ensures) shown))

pub excess-requires-clause-lawful : goal.excess-requires-clause-lawful
excess-requires-clause-lawful c =
    let outcome = subst (λ (found : Option (List ℕ)). IsOutcome c.args.program.now c.args.average.now.nodes (Spent c.args.spent.bound found c.args.spent.tree)) c.in-Some.is c.requires.outcome in
    let lawful = found_counts c.args.average.now.fraction.now (ratio_of c.args.standing.ratio) c.args.program.now c.requires.program c.args.average.now.nodes c.args.spent.bound c.in-Some.counts c.args.spent.tree outcome in
    subst (IsLawful c.args.average.now.fraction.now) (sym c.as_slice.ensures) lawful

pub standing_at-next-requires-clause-lawful : goal.standing_at-next-requires-clause-lawful
standing_at-next-requires-clause-lawful c =
    let outcome = subst (λ (found : Option (List ℕ)). IsOutcome c.args.program.now c.args.average.now.nodes (Spent c.args.spent.bound found c.args.spent.tree)) c.in-Some.is c.requires.outcome in
    found_counts c.args.average.now.fraction.now (ratio_of c.args.standing.ratio) c.args.program.now c.requires.program c.args.average.now.nodes c.args.spent.bound c.in-Some.counts c.args.spent.tree outcome

pub standing_at-next-requires-clause-some : goal.standing_at-next-requires-clause-some
standing_at-next-requires-clause-some c =
    let f = c.args.average.now.fraction.now in
    let r = ratio_of c.args.standing.ratio in
    above_have_rows f c.requires.asked.fractional r c.in-Some.counts
    (over_passed f r c.as_slice.result.now c.in-Some.counts c.excess.result c.as_slice.ensures c.excess.ensures c.excess.type_inv c.if-excess-gt0.true)

pub returns-then-excess-gt0 : goal.returns-then-excess-gt0
returns-then-excess-gt0 c =
    let f = c.args.average.now.fraction.now in
    let r = ratio_of c.args.standing.ratio in
    let next = c.standing_at-next.result in
    let made = c.standing_at-next.ensures in
    let some = c.if-standing-gt0.true in
    let over = over_passed f r c.as_slice.result.now c.in-Some.counts c.excess.result c.as_slice.ensures c.excess.ensures c.excess.type_inv c.if-excess-gt0.true in
    let grown = from_above f c.requires.asked.fractional r (ratio_of next.ratio) c.in-Some.counts made.ratio over in
    better_at f c.args.average.now.outermost c.args.average.now.nodes c.args.standing c.requires.standing c.requires.asked.fractional next c.in-Some.counts c.args.standing.limit (c.args.standing.tries - 1)
    made.counts made.limit made.tries made.lowest made.ratio over
    (limits_stay f c.requires.asked.fractional r (ratio_of next.ratio) c.args.standing.limit c.requires.standing.ratio.positive made.ratio.positive grown c.requires.standing.limit)
    (omega (arith, some))

pub end_above-requires-clause-under : goal.end_above-requires-clause-under
end_above-requires-clause-under c =
    let ratio = c.requires.standing.ratio in
    let product = product_is c.args.average.now.outermost c.args.standing.ratio.den (product_small c.args.average.now.outermost c.args.standing.ratio.den c.requires.asked.outermost.small ratio.positive ratio.small_den) in
    let num = as_it_is c.args.standing.ratio.num (let small = ratio.small_num in omega (arith, small)) in
    is_above _ _ (rw (product, num) at c.if-average-ratio.false)
