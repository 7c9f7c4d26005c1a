use Rattle.pc_nested.specs.Narrowed.{IsEmptied}
use Rattle.pc_nested.proofs.narrowing.emptied.Given as goal

abbrev pub invariant-loop-cell : goal.invariant-loop-cell
invariant-loop-cell l = IsEmptied l.p l.place l.lows l.highs l.cell l.ends
