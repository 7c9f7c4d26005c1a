use Rattle.std.proofs.Common.{◌<◌, length, arith, refl}
use Rattle.pc_simplex_tableau.specs.Tableau.{turned_row}
use Rattle.pc_simplex_tableau.specs.Conditions.{IsSizedRow, does_turned_row_fit}
use Rattle.pc_simplex_tableau.proofs.Turning.{turned_row-sized}
use Rattle.pc_simplex_tableau.proofs.Changed.{changed_more}
use Rattle.pc_simplex_tableau.proofs.rows.turn_all.Goals as goal

pub loop-row-preserved : goal.loop-row-preserved
loop-row-preserved c =
    let l = c.loop-row in
    let f = c.args.columns.now in
    let inside : l.row-index < length l.rows = omega (arith, l.auto.rows, c.loop-row-test.true) in
    let found = c.if-not-turn.ensures in
    changed_more (turned_row f c.args.column c.args.range) (does_turned_row_fit f c.args.column c.args.range) (IsSizedRow f) c.args.rows.now l.rows l.row-index
    (turned_row-sized f c.args.column c.args.range) c.row-item.result c.turn.new.self c.loop-row-test.true inside l.invariant
    (found.turned refl) found.value (found.fits refl)
