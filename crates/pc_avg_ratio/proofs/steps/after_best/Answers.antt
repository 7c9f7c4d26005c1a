use Rattle.std.proofs.Common.{◌≡◌, nat_abs, to_z, of_z, arith}
use Rattle.std.specs.Int.{w128}
use Rattle.std.proofs.lemmas.Int.{ints}
use Rattle.pc_proof.specs.Table.{ratio_of}
use Rattle.pc_avg_ratio.specs.Fractional.{over_before, rows_with}
use Rattle.pc_avg_ratio.proofs.Excess.{over_by_worth, above_have_rows}
use Rattle.pc_avg_ratio.proofs.Limits.{rows_limit}
use Rattle.pc_avg_ratio.proofs.Passed.{sum_passed, rows_passed, lower_limit, is_above, is_at_most}
use Rattle.pc_avg_ratio.proofs.StepEnds.{better_at, reached_at, shown_at}
use Rattle.pc_avg_ratio.proofs.steps.after_best.Goals as goal

pub overflow_add-over_before : goal.overflow_add-over_before
overflow_add-over_before c = omega (arith, ints)

pub returns-then-over_before-value-le0-clause-step : goal.returns-then-over_before-value-le0-clause-step
returns-then-over_before-value-le0-clause-step c = λ outermost budget within.
    let f = c.args.f.now in
    let r = ratio_of c.args.standing.ratio in
    let sum = sum_passed c.over_before.result c.args.value (over_before f r) c.over_before.ensures.value c.over_before.ensures.small c.requires.small in
    reached_at f outermost budget c.args.standing c.requires.standing c.args.tree
    (shown_at f outermost budget r c.args.tree c.args.value within (is_at_most _ _ (rw sum at c.if-over_before-value-le0.true)))

pub overflow_cast-limit : goal.overflow_cast-limit
overflow_cast-limit c =
    let same : to_z w128 (of_z w128 c.rows_with-limit.result) ≡ c.rows_with-limit.result = omega (arith, ints) in
    rw same (omega (arith, ints), omega (arith, ints))

pub standing_at-requires-clause-some : goal.standing_at-requires-clause-some
standing_at-requires-clause-some c =
    let f = c.args.f.now in
    let r = ratio_of c.args.standing.ratio in
    let sum = sum_passed c.over_before.result c.args.value (over_before f r) c.over_before.ensures.value c.over_before.ensures.small c.requires.small in
    above_have_rows f c.requires.fractional r c.args.counts
    (over_by_worth f c.requires.fractional r c.args.counts c.args.value c.requires.value (is_above _ _ (rw sum at c.if-over_before-value-le0.false)))

pub returns-clause-step : goal.returns-clause-step
returns-clause-step c = λ outermost budget within.
    let f = c.args.f.now in
    let r = ratio_of c.args.standing.ratio in
    let sum = sum_passed c.over_before.result c.args.value (over_before f r) c.over_before.ensures.value c.over_before.ensures.small c.requires.small in
    let over = over_by_worth f c.requires.fractional r c.args.counts c.args.value c.requires.value (is_above _ _ (rw sum at c.if-over_before-value-le0.false)) in
    let rows = c.rows_with-limit.result in
    let limit = rows_passed rows (rows_with f c.args.counts) (rw c.as_slice.ensures at c.rows_with-limit.ensures.value) c.rows_with-limit.ensures.some c.rows_with-limit.ensures.few in
    let fewer = c.requires.standing.limit c.args.counts c.requires.best.lawful over in
    better_at f outermost budget c.args.standing c.requires.standing c.requires.fractional c.standing_at.result c.args.counts (nat_abs (to_z w128 (of_z w128 rows))) c.args.standing.tries
    c.standing_at.ensures.counts c.standing_at.ensures.limit c.standing_at.ensures.tries c.standing_at.ensures.lowest c.standing_at.ensures.ratio over
    (rows_limit f c.requires.fractional r (ratio_of c.standing_at.result.ratio) c.args.counts (nat_abs (to_z w128 (of_z w128 rows))) c.requires.standing.ratio.positive c.requires.best over c.standing_at.ensures.ratio limit)
    (lower_limit _ _ c.args.standing.limit c.args.standing.tries limit fewer)
