use Rattle.std.proofs.Common.{◌∙◌, ap, sym, length}
use Rattle.pc_num.proofs.Signed.{as_passed, passed}
use Rattle.pc_simplex_tableau.proofs.Listed.{length-table}
use Rattle.pc_simplex.proofs.FirstRows.{first_row-short}
use Rattle.pc_simplex.proofs.first.first_row.Goals as goal

pub short_row-requires-clause-sized : goal.short_row-requires-clause-sized
short_row-requires-clause-sized c = ap length c.in_ok-numbers.ensures ∙ length-table _ _

pub returns-then-is_short_by : goal.returns-then-is_short_by
returns-then-is_short_by c =
    let left = c.left_of-left.result in
    let found = c.left_of-left.ensures in
    c.short_row.ensures
    ∙ first_row-short c.args.p.now c.args.floor.now c.args.constraint c.requires.own (as_passed left) c.in_ok-numbers.numbers.items
    (passed left found.fits ∙ found.value) c.in_ok-numbers.ensures (sym c.if-is_short_by.ensures)
