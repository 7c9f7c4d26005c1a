use Rattle.pc_simplex.proofs.ShortFreed.{IsFreedTo}
use Rattle.pc_simplex.proofs.short_phases.free_of_basics.Given as goal

abbrev pub invariant-loop-at : goal.invariant-loop-at
invariant-loop-at l = IsFreedTo l.setting l.at l.fn.tableau l.tableau
