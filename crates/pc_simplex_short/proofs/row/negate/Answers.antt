use Rattle.std.proofs.Common.{◌<◌, ◌∙◌, ap, length, get_or, pos, neg_ℤ, arith}
use Rattle.pc_simplex_short.specs.Kept.{IsWithin}
use Rattle.pc_simplex_short.proofs.Made.{made_more}
use Rattle.pc_simplex_short.proofs.Words.{FitsWord, passed_word}
use Rattle.pc_simplex_short.proofs.row.negate.Goals as goal

pub loop-number-preserved : goal.loop-number-preserved
loop-number-preserved c =
    let l = c.loop-number in
    let inside : l.number-index < length l.numbers = omega (arith, l.auto.numbers, c.loop-number-test.true) in
    let number = get_or l.numbers l.number-index (pos 0) in
    let small : IsWithin 50 number = l.invariant.kept l.number-index (pos 0) inside in
    let fits : FitsWord number = omega (arith, small) in
    let made = c.negative.ensures in
    let made_fits : FitsWord c.negative.result = omega (arith, made.small) in
    rw (passed_word c.negative.result made_fits) (made_more neg_ℤ (IsWithin 50) c.args.numbers.now l.numbers l.number-index (pos 0) c.negative.result c.loop-number-test.true inside l.invariant
    (made.value ∙ ap neg_ℤ (passed_word number fits)) made.small)
