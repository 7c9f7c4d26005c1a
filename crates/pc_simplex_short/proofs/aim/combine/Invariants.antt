use Rattle.pc_simplex_tableau.proofs.Coded.{IsCombinedTo}
use Rattle.pc_simplex_short.proofs.aim.combine.Given as goal

abbrev pub invariant-loop-place : goal.invariant-loop-place
invariant-loop-place l = IsCombinedTo l.fn.p l.fn.t l.fn.row l.other l.row l.place
