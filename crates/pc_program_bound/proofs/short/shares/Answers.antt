use Rattle.std.proofs.Common.{arith, ◌≡◌, ◌∙◌, ap, get_or, to_z, of_z}
use Rattle.std.specs.Prelude.{pos, ◌+ℤ◌}
use Rattle.std.specs.Int.{w64, w128}
use Rattle.std.proofs.lemmas.Int.{ints, to_z-of_z}
use Rattle.pc_program_bound.proofs.SetSums.{kept, all_taken}
use Rattle.pc_program_bound.proofs.ShortWidths.{none_summed, one_summed, rest_same, sum_fits}
use Rattle.pc_program_bound.proofs.short.shares.Goals as goal

pub loop-cell-init : goal.loop-cell-init
loop-cell-init c = none_summed c.args.p.now c.args.floor.now c.args.cap.now c.args.mult.now

pub at_best-share-requires-clause-ordered : goal.at_best-share-requires-clause-ordered
at_best-share-requires-clause-ordered c =
    let below = rw c.as_slice-mask-items.ensures at c.loop-cell-test.true in
    (c.requires.inside.inside c.loop-cell.cell below).1

pub at_best-share-requires-clause-few : goal.at_best-share-requires-clause-few
at_best-share-requires-clause-few c =
    let below = rw c.as_slice-mask-items.ensures at c.loop-cell-test.true in
    let inside = (c.requires.inside.inside c.loop-cell.cell below).2 in
    omega (arith, inside, c.requires.program.small_cap c.loop-cell.cell below)

pub overflow_add-share : goal.overflow_add-share
overflow_add-share c =
    let below = rw c.as_slice-mask-items.ensures at c.loop-cell-test.true in
    let same : to_z w128 (of_z w128 c.at_best-share.result) ≡ c.at_best-share.result = omega (arith, ints) in
    rw same (sum_fits (to_z w128 c.loop-cell.share-bits) c.at_best-share.result c.loop-cell.cell (omega (arith, below, c.requires.few)) c.loop-cell.invariant.small c.at_best-share.ensures.small)

pub loop-cell-preserved : goal.loop-cell-preserved
loop-cell-preserved c =
    let p = c.args.p.now in
    let mult = c.args.mult.now in
    let cell = c.loop-cell.cell in
    let below = rw c.as_slice-mask-items.ensures at c.loop-cell-test.true in
    let fits = sum_fits (to_z w128 c.loop-cell.share-bits) c.at_best-share.result cell (omega (arith, below, c.requires.few)) c.loop-cell.invariant.small c.at_best-share.ensures.small in
    let same : to_z w128 (of_z w128 c.at_best-share.result) ≡ c.at_best-share.result = omega (arith, ints) in
    let all_same = to_z-of_z w128 ((to_z w128 c.loop-cell.share-bits) +ℤ c.at_best-share.result) fits in
    let rest : to_z w64 (of_z w64 c.in_ok-rest.rest) ≡ c.in_ok-rest.rest = omega (arith, ints) in
    let best = rw rest at c.at_best-share.ensures.value in
    let den_read : to_z w128 (of_z w128 mult.den) ≡ mult.den = omega (arith, ints) in
    let den = kept mult.den (omega (arith, c.requires.den)) in
    let gain = get_or c.as_slice-gains.result.now cell (pos 0) in
    let gain_same : to_z w128 (of_z w128 gain) ≡ gain = omega (arith, ints) in
    let gain_is = ap (λ xs. get_or xs cell (pos 0)) c.as_slice-gains.ensures in
    let given_same : to_z w64 (of_z w64 c.given.result) ≡ c.given.result = omega (arith, ints) in
    let given_is = c.given.ensures.value ∙ all_taken mult.by _ c.args.tables.now c.requires.tables (omega (arith, c.requires.sized, c.requires.program.few)) in
    let left = rw (den_read, den, gain_same, given_same) at c.in_ok-rest.ensures.value.1 in
    let short = rw (den_read, den, gain_same, gain_is) at c.in_ok-rest.ensures.value.0 in
    let left_is = left ∙ rest_same p mult cell gain c.given.result _ gain_is (ap (λ xs. get_or xs cell 0) c.as_slice-mask-items.ensures) given_is c.requires.sized in
    rw (same, all_same) (one_summed p c.args.floor.now c.args.cap.now mult cell (to_z w128 c.loop-cell.share-bits) c.in_ok-rest.rest c.at_best-share.result c.loop-cell.invariant left_is short best c.at_best-share.ensures.small)

pub returns-in_err-rest-clause-value : goal.returns-in_err-rest-clause-value
returns-in_err-rest-clause-value c =
    let mult = c.args.mult.now in
    let cell = c.loop-cell.cell in
    let below = rw c.as_slice-mask-items.ensures at c.loop-cell-test.true in
    let den_read : to_z w128 (of_z w128 mult.den) ≡ mult.den = omega (arith, ints) in
    let den = kept mult.den (omega (arith, c.requires.den)) in
    let gain = get_or c.as_slice-gains.result.now cell (pos 0) in
    let gain_same : to_z w128 (of_z w128 gain) ≡ gain = omega (arith, ints) in
    let gain_is = ap (λ xs. get_or xs cell (pos 0)) c.as_slice-gains.ensures in
    let wide = rw (den_read, den, gain_same, gain_is) at c.in_err-rest.ensures.value in
    rw c.from_residual.ensures (λ short. wide (short.gains cell below))
