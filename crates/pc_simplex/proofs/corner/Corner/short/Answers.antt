use Rattle.pc_simplex_short.proofs.Fits.{spelled_sized, spelled_fits}
use Rattle.pc_simplex.proofs.corner.Corner.short.Goals as goal

pub returns-clause-sized : goal.returns-clause-sized
returns-clause-sized c = spelled_sized c.args.setting c.args.tableau c.requires.setting c.requires.short

pub returns-clause-fits : goal.returns-clause-fits
returns-clause-fits c = spelled_fits c.args.setting c.args.tableau c.requires.setting c.requires.short
