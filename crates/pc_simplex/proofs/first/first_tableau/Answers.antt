use Rattle.pc_simplex.proofs.FirstRows.{first_sized, first_fits, first_is}
use Rattle.pc_simplex.proofs.first.first_tableau.Goals as goal

pub returns-clause-sized : goal.returns-clause-sized
returns-clause-sized c =
    first_sized c.args.p.now c.args.floor.now _ (first_is c.args.p.now c.args.floor.now _ _ _ c.in_ok-rows.ensures c.in_ok-turned.ensures c.in_ok-aim.ensures)

pub returns-clause-fits : goal.returns-clause-fits
returns-clause-fits c =
    first_fits c.args.p.now c.args.floor.now _ c.requires.program c.requires.floors
    (first_is c.args.p.now c.args.floor.now _ _ _ c.in_ok-rows.ensures c.in_ok-turned.ensures c.in_ok-aim.ensures)
