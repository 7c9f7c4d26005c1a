use Rattle.pc_check_rules.proofs.Passing.{over_fits, over_is, over_small}
use Rattle.pc_check_rules.proofs.ratios.num_over.Goals as goal

pub overflow_mul-result : goal.overflow_mul-result
overflow_mul-result c = over_fits c.args.ratio.now.num c.args.rows c.requires.measured.small c.requires.some c.requires.few

pub returns-clause-num : goal.returns-clause-num
returns-clause-num c = over_is c.args.ratio.now.num c.args.rows c.requires.measured.small c.requires.some c.requires.few

pub returns-clause-small : goal.returns-clause-small
returns-clause-small c = over_small c.args.ratio.now.num c.args.rows c.requires.measured.small c.requires.some c.requires.few
