use Rattle.std.proofs.Common.{arith}
use Rattle.std.proofs.lemmas.Int.{ints}
use Rattle.pc_check_rules.proofs.Passing.{over_fits, over_is, over_small, over_positive}
use Rattle.pc_check_rules.proofs.ratios.den_over.Goals as goal

pub overflow_mul-result : goal.overflow_mul-result
overflow_mul-result c = over_fits c.args.ratio.now.den c.args.rows (omega (arith, ints, c.requires.measured.positive, c.requires.measured.few)) c.requires.some c.requires.few

pub returns-clause-den : goal.returns-clause-den
returns-clause-den c = over_is c.args.ratio.now.den c.args.rows (omega (arith, ints, c.requires.measured.positive, c.requires.measured.few)) c.requires.some c.requires.few

pub returns-clause-small : goal.returns-clause-small
returns-clause-small c = over_small c.args.ratio.now.den c.args.rows (omega (arith, ints, c.requires.measured.positive, c.requires.measured.few)) c.requires.some c.requires.few

pub returns-clause-positive : goal.returns-clause-positive
returns-clause-positive c = over_positive c.args.ratio.now.den c.args.rows (omega (arith, ints, c.requires.measured.positive, c.requires.measured.few)) c.requires.some c.requires.few c.requires.measured.positive
