use Rattle.std.proofs.Common.{◌≡◌, ◌<◌, length, arith, refl}
use Rattle.pc_simplex_tableau.specs.Tableau.{freed_row, does_freed_row_fit}
use Rattle.pc_simplex_tableau.proofs.Freeing.{freed_row-length}
use Rattle.pc_simplex_tableau.proofs.Changed.{changed_more}
use Rattle.pc_simplex_tableau.proofs.rows.free_all.Goals as goal

pub loop-row-preserved : goal.loop-row-preserved
loop-row-preserved c =
    let l = c.loop-row in
    let other = c.args.other.now in
    let inside : l.row-index < length l.rows = omega (arith, l.auto.rows, c.loop-row-test.true) in
    let found = c.if-not-free.ensures in
    changed_more (freed_row c.args.column other) (does_freed_row_fit c.args.column other) (λ row. length row.numbers ≡ length other) c.args.rows.now l.rows l.row-index
    (freed_row-length c.args.column other) c.row-item.result c.free.new.self c.loop-row-test.true inside l.invariant
    (found.freed refl) found.value (found.fits refl)
