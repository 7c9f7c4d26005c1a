use Rattle.pc_num.proofs.Divisors.{gcd_above, reduced_share}
use Rattle.pc_num.proofs.fraction.lowest.Goals as goal

pub nonzero_div-result : goal.nonzero_div-result
nonzero_div-result c = gcd_above _ _ _ c.common_divisor-common.ensures c.requires

pub nonzero_div-result-2 : goal.nonzero_div-result-2
nonzero_div-result-2 c = gcd_above _ _ _ c.common_divisor-common.ensures c.requires

pub returns-clause-reduced : goal.returns-clause-reduced
returns-clause-reduced c = reduced_share _ _ _ c.requires c.common_divisor-common.ensures
