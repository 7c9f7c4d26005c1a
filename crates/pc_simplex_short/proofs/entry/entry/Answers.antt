use Rattle.std.proofs.Common.{arith}
use Rattle.pc_simplex_short.proofs.Words.{FitsWord, passed_word}
use Rattle.pc_simplex_short.proofs.entry.entry.Goals as goal

pub returns-clause-value : goal.returns-clause-value
returns-clause-value c =
    let sum_fits : FitsWord c.mix_at.result = omega (arith, c.mix_at.ensures.small) in
    let value = rw (passed_word c.mix_at.result sum_fits, c.mix_at.ensures.value) at c.signed.ensures.value in
    let size = rw (passed_word c.mix_at.result sum_fits) at c.signed.ensures.size in
    let own : FitsWord c.signed.result = omega (arith, size, sum_fits) in
    rw (passed_word c.signed.result own) value

pub returns-clause-small : goal.returns-clause-small
returns-clause-small c =
    let most = c.mix_at.ensures.small in
    let sum_fits : FitsWord c.mix_at.result = omega (arith, most) in
    let size = rw (passed_word c.mix_at.result sum_fits) at c.signed.ensures.size in
    let own : FitsWord c.signed.result = omega (arith, size, sum_fits) in
    rw (passed_word c.signed.result own) (omega (arith, size, most))
