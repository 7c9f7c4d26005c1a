use Rattle.pc_cells.proofs.Extremes.{IsEnd}
use Rattle.pc_cells.proofs.ends.end_of.Given as goal

abbrev pub invariant-loop-leaf : goal.invariant-loop-leaf
invariant-loop-leaf l = IsEnd l.low l.column l.leaves l.leaf l.end.number l.end.leaf
