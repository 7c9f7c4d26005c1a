use Rattle.std.proofs.Common.{◌∙◌, to_z-of_z}
use Rattle.pc_num.proofs.Signed.{passed}
use Rattle.pc_simplex_tableau.proofs.Aims.{divisor_is}
use Rattle.pc_simplex_tableau.proofs.aim.divisor_of.Goals as goal

pub returns-clause-value : goal.returns-clause-value
returns-clause-value c =
    let rest = c.row_divisor.ensures in
    let found = rw (to_z-of_z c.ranges.weight, passed c.row_divisor.result rest.fits) at c.gcd.ensures.common in
    passed c.gcd.result c.gcd.ensures.fits
    ∙ divisor_is c.args.weight c.row_divisor.result c.gcd.result c.args.entries.now rest.common found c.gcd.ensures.sign
