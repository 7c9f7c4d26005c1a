use Rattle.pc_simplex.proofs.Pointed.{AreCounts}
use Rattle.pc_simplex.proofs.point.point.Given as goal

abbrev pub invariant-loop-cell : goal.invariant-loop-cell
invariant-loop-cell l = AreCounts l.p l.floor l.cap l.tableau l.cell l.point
