use Rattle.pc_nested.specs.Filled.{IsDearestIfAny}
use Rattle.pc_nested.proofs.filling.dearest.Given as goal

abbrev pub invariant-loop-cell : goal.invariant-loop-cell
invariant-loop-cell l = IsDearestIfAny l.p l.place l.counts l.highs l.cell l.found
