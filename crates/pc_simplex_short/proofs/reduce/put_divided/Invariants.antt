use Rattle.pc_simplex_short.proofs.Reducing.{IsReducedTo}
use Rattle.pc_simplex_short.proofs.reduce.put_divided.Given as goal

abbrev pub invariant-loop-place : goal.invariant-loop-place
invariant-loop-place l = IsReducedTo l.fn.p l.fn.t l.fn.divisor l.fn.row l.other l.row l.place
