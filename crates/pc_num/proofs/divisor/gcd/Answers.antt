use Rattle.std.proofs.Common.{pos, unsigned_abs, ◌<◌, ◌^◌, arith}
use Rattle.std.proofs.lemmas.Int.{ints, to_z_pos, fits_signed_from_abs}
use Rattle.std.specs.Int.{IsGcd, w128}
use Rattle.pc_num.proofs.Divisors.{gcd_below}
use Rattle.pc_num.proofs.Signed.{gcd_of_sizes}
use Rattle.pc_num.proofs.divisor.gcd.Goals as goal

found : (c : goal.After-common_divisor) → IsGcd (unsigned_abs c.args.a) (unsigned_abs c.args.b) c.common_divisor.result
found c = gcd_of_sizes c.args.a c.args.b _ _ _ c.unsigned_abs.ensures.value c.unsigned_abs-2.ensures.value c.requires.a_fits c.requires.b_fits c.common_divisor.ensures

below : (c : goal.After-common_divisor) → c.common_divisor.result < 2 ^ 127
below c = gcd_below (unsigned_abs c.args.a) (unsigned_abs c.args.b) _ _ (found c) c.requires.a_fits c.requires.b_fits

pub overflow_cast-result : goal.overflow_cast-result
overflow_cast-result c = fits_signed_from_abs w128 (pos c.common_divisor.result) (below c)

pub returns-clause-common : goal.returns-clause-common
returns-clause-common c = rw (to_z_pos w128 c.common_divisor.result (below c)) (found c)

pub returns-clause-sign : goal.returns-clause-sign
returns-clause-sign c = rw (to_z_pos w128 c.common_divisor.result (below c)) (omega (arith, ints))

pub returns-clause-fits : goal.returns-clause-fits
returns-clause-fits c = rw (to_z_pos w128 c.common_divisor.result (below c)) (below c)
