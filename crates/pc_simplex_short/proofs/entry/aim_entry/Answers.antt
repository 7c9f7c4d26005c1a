use Rattle.std.proofs.Common.{ap, ap₂, ◌+ℤ◌, ◌∙◌, arith, to_z-of_z, slice_index_or, false}
use Rattle.pc_program_bound.specs.Bound.{IsFit}
use Rattle.pc_num.proofs.Signed.{passed}
use Rattle.pc_simplex_short.specs.Short.{signed}
use Rattle.pc_simplex_short.proofs.entry.aim_entry.Goals as goal

pub returns-clause-value : goal.returns-clause-value
returns-clause-value c =
    let gain_fits : IsFit c.weighed-gain.result = omega (arith, c.weighed-gain.ensures.small) in
    let mix_fits : IsFit c.wide_mix_at.result = omega (arith, c.wide_mix_at.ensures.small) in
    let sum_fits : IsFit c.plus-sum.result = omega (arith, c.plus-sum.ensures.small) in
    let sum = rw (passed c.weighed-gain.result gain_fits, passed c.wide_mix_at.result mix_fits) at c.plus-sum.ensures.value in
    let gain = rw (to_z-of_z c.ranges.weight) at c.weighed-gain.ensures.value in
    let turned = rw (passed c.plus-sum.result sum_fits) at c.wide_signed.ensures.value in
    let size = rw (passed c.plus-sum.result sum_fits) at c.wide_signed.ensures.size in
    let own : IsFit c.wide_signed.result = omega (arith, size, sum_fits) in
    passed c.wide_signed.result own
    ∙ turned ∙ ap (signed (slice_index_or c.args.turned.now c.args.column false)) (sum ∙ ap₂ ◌+ℤ◌ gain c.wide_mix_at.ensures.value)

pub returns-clause-small : goal.returns-clause-small
returns-clause-small c =
    let most = c.plus-sum.ensures.small in
    let sum_fits : IsFit c.plus-sum.result = omega (arith, most) in
    let size = rw (passed c.plus-sum.result sum_fits) at c.wide_signed.ensures.size in
    let own : IsFit c.wide_signed.result = omega (arith, size, sum_fits) in
    rw (passed c.wide_signed.result own) (omega (arith, size, most))
