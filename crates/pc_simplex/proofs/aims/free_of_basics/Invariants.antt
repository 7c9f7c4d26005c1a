use Rattle.pc_simplex.proofs.FreedRows.{IsFreedTo}
use Rattle.pc_simplex.proofs.aims.free_of_basics.Given as goal

abbrev pub invariant-loop-at : goal.invariant-loop-at
invariant-loop-at l = IsFreedTo l.at l.fn.tableau l.tableau
