use Rattle.pc_simplex.proofs.Gains.{with_gains_is, gains_sized, gains_fit}
use Rattle.pc_simplex.proofs.aims.with_gains.Goals as goal

pub returns-clause-sized : goal.returns-clause-sized
returns-clause-sized c =
    gains_sized c.args.p.now c.args.tableau _
    (with_gains_is c.args.p.now c.args.tableau _ _ _ c.tableau.view_is c.as_slice.ensures.value c.in_ok-tableau-inside.ensures)

pub returns-clause-fits : goal.returns-clause-fits
returns-clause-fits c =
    gains_fit c.args.p.now c.requires.program c.requires.gains c.args.tableau _
    (with_gains_is c.args.p.now c.args.tableau _ _ _ c.tableau.view_is c.as_slice.ensures.value c.in_ok-tableau-inside.ensures) c.requires.fits
