use Rattle.pc_simplex.proofs.Pointed.{more_counts}
use Rattle.pc_simplex.proofs.point.point.Goals as goal

pub loop-cell-preserved : goal.loop-cell-preserved
loop-cell-preserved c =
    rw c.in_ok-push-in-Some.ensures.ok
    (more_counts c.args.p.now c.args.floor.now c.args.cap.now c.args.tableau.now c.loop-cell.cell c.loop-cell.point c.in-Some.count c.loop-cell.invariant c.in-Some.ensures.some)
