use Rattle.std.proofs.Common.{◌<◌, length, arith, pos, neg_ℤ}
use Rattle.pc_simplex_tableau.proofs.InPlace.{mapped_more, one_set_fit}
use Rattle.pc_simplex_tableau.proofs.row.negate.Goals as goal

pub loop-number-preserved : goal.loop-number-preserved
loop-number-preserved c =
    let l = c.loop-number in
    let inside : l.number-index < length l.numbers = omega (arith, l.auto.numbers, c.loop-number-test.true) in
    record {
      made = mapped_more neg_ℤ c.args.numbers.now l.numbers l.number-index _ c.loop-number-test.true inside l.invariant.made (l.invariant.fits l.number-index (pos 0) inside) c.negative.ensures.value c.negative.ensures.fits;
      fits = one_set_fit l.numbers l.number-index c.negative.result c.negative.ensures.fits l.invariant.fits;
    }
