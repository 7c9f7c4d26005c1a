use Rattle.std.proofs.Common.{◌≡◌, ◌<◌, ◌^◌, pos, unsigned_abs, to_z-of_z}
use Rattle.std.specs.Int.{IsGcd}
use Rattle.pc_num.proofs.Divisors.{gcd_below}
use Rattle.pc_num.proofs.Signed.{gcd_of_sizes, passed}
use Rattle.pc_simplex_short.proofs.reduce.common_divisor.Goals as goal

pub returns-then-other-clause-common : goal.returns-then-other-clause-common
returns-then-other-clause-common c =
    let g = c.word_divisor.result in
    let found : IsGcd (unsigned_abs c.args.a) (unsigned_abs c.args.b) g =
    gcd_of_sizes c.args.a c.args.b _ _ _ c.unsigned_abs-own.ensures.value c.unsigned_abs-other.ensures.value c.requires.a_fits c.requires.b_fits c.word_divisor.ensures in
    let below : g < 2 ^ 127 = gcd_below (unsigned_abs c.args.a) (unsigned_abs c.args.b) g (2 ^ 127) found c.requires.a_fits c.requires.b_fits in
    let is : c.from.result ≡ pos g = c.from.ensures in
    rw (is, passed (pos g) below) found

pub returns-clause-common : goal.returns-clause-common
returns-clause-common c = rw (passed c.gcd.result c.gcd.ensures.fits) (rw (to_z-of_z c.ranges.a, to_z-of_z c.ranges.b) at c.gcd.ensures.common)
