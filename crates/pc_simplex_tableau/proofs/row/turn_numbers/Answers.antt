use Rattle.pc_simplex_tableau.proofs.Turning.{two_set_fit}
use Rattle.pc_simplex_tableau.proofs.row.turn_numbers.Goals as goal

pub returns-in-Some-clause-fits : goal.returns-in-Some-clause-fits
returns-in-Some-clause-fits c true_result =
    let found = c.in-Some.ensures in
    two_set_fit c.args.numbers.now _ _ _ c.negative.result _ found.0.1 found.1 c.negative.ensures.fits c.requires.fits
