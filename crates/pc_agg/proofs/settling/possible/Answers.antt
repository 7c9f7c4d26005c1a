use Rattle.std.proofs.lemmas.Result.{IfOk-weaker}
use Rattle.pc_agg_search.specs.Problem.{setting_of}
use Rattle.pc_agg.proofs.Filling.{rows_of_cells}
use Rattle.pc_agg.proofs.ShownRows.{rows_shown, first_picks}
use Rattle.pc_agg.proofs.Totals.{sized_rows, settled_only}
use Rattle.pc_agg.proofs.settling.possible.Goals as goal

pub listed-requires-clause-sized : goal.listed-requires-clause-sized
listed-requires-clause-sized c =
    rw (c.as_slice.ensures, c.in_ok-found.ensures)
    (sized_rows (setting_of c.args.problem.now) c.in_ok-picks.picks c.args.counts
    (rows_of_cells c.args.problem.now.schema.now c.args.problem.now.constraints.now c.args.problem.now.query.now c.args.problem.now.cells.now.tree.nodes c.requires.posed.formed c.requires.posed.found.tree c.args.problem.now.cells.now.cells c.in_ok-picks.picks c.requires.posed.found.listed c.in_ok-picks.ensures)
    c.requires.lawful)

pub returns-clause-settled : goal.returns-clause-settled
returns-clause-settled c =
    let u = setting_of c.args.problem.now in
    let rows = rows_of_cells c.args.problem.now.schema.now c.args.problem.now.constraints.now c.args.problem.now.query.now c.args.problem.now.cells.now.tree.nodes c.requires.posed.formed c.requires.posed.found.tree c.args.problem.now.cells.now.cells c.in_ok-picks.picks c.requires.posed.found.listed c.in_ok-picks.ensures in
    let shown = rows_shown u c.requires.posed.formed c.requires.posed.found.tree c.args.problem.now.cells.now.cells c.in_ok-picks.picks c.requires.posed.found.listed c.in_ok-picks.ensures in
    IfOk-weaker c.listed.result _ _
    (λ settled is budget. settled_only u budget c.in_ok-picks.picks c.args.counts c.in_ok-found.found settled rows (first_picks u c.in_ok-picks.picks shown _) c.requires.lawful c.in_ok-found.ensures (rw c.as_slice.ensures at is))
    c.listed.ensures
