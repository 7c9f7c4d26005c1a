use Rattle.pc_num.proofs.Rounding.{ceiled}
use Rattle.pc_num.proofs.fraction.Frac.ceil.Goals as goal

pub returns-clause-not_below : goal.returns-clause-not_below
returns-clause-not_below c = (ceiled c.args.self.now.num c.args.self.now.den _ c.requires.above c.requires.num_fits c.requires.den_fits c.div_euclid.ensures).not_below

pub returns-clause-one_before_below : goal.returns-clause-one_before_below
returns-clause-one_before_below c = (ceiled c.args.self.now.num c.args.self.now.den _ c.requires.above c.requires.num_fits c.requires.den_fits c.div_euclid.ensures).one_before_below
