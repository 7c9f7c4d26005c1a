use Rattle.std.proofs.Common.{ap, ap₂, ◌+ℤ◌, ◌∙◌, arith, to_z-of_z, slice_index_or, false}
use Rattle.pc_simplex_short.specs.Short.{signed}
use Rattle.pc_simplex_short.proofs.Words.{FitsWord, passed_word}
use Rattle.pc_simplex_short.proofs.narrow.narrow_aim_entry.Goals as goal

pub returns-clause-value : goal.returns-clause-value
returns-clause-value c =
    let gain_fits : FitsWord c.weighed-gain.result = omega (arith, c.weighed-gain.ensures.small) in
    let mix_fits : FitsWord c.mix_at.result = omega (arith, c.mix_at.ensures.small) in
    let sum_fits : FitsWord c.plus-sum.result = omega (arith, c.plus-sum.ensures.small) in
    let sum = rw (passed_word c.weighed-gain.result gain_fits, passed_word c.mix_at.result mix_fits) at c.plus-sum.ensures.value in
    let gain = rw (to_z-of_z c.ranges.weight) at c.weighed-gain.ensures.value in
    let turned = rw (passed_word c.plus-sum.result sum_fits) at c.signed.ensures.value in
    let size = rw (passed_word c.plus-sum.result sum_fits) at c.signed.ensures.size in
    let own : FitsWord c.signed.result = omega (arith, size, sum_fits) in
    passed_word c.signed.result own
    ∙ turned ∙ ap (signed (slice_index_or c.args.turned.now c.args.column false)) (sum ∙ ap₂ ◌+ℤ◌ gain c.mix_at.ensures.value)

pub returns-clause-small : goal.returns-clause-small
returns-clause-small c =
    let most = c.plus-sum.ensures.small in
    let sum_fits : FitsWord c.plus-sum.result = omega (arith, most) in
    let size = rw (passed_word c.plus-sum.result sum_fits) at c.signed.ensures.size in
    let own : FitsWord c.signed.result = omega (arith, size, sum_fits) in
    rw (passed_word c.signed.result own) (omega (arith, size, most))
