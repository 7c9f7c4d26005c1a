use Rattle.pc_agg.proofs.Filling.{more_rows}
use Rattle.pc_agg.proofs.settling.rows_of_cells.Goals as goal

pub loop-place-preserved : goal.loop-place-preserved
loop-place-preserved c =
    rw c.in_ok-push.ensures.ok
    (more_rows c.args.cells.now.cells c.loop-place.picks c.loop-place.place c.in_ok-row.row (rw c.len-place-end.ensures at c.loop-place-test.true) c.requires.filled c.loop-place.invariant c.in_ok-row.ensures.row c.in_ok-row.ensures.lowest)
