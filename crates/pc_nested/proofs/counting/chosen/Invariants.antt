use Rattle.pc_nested.proofs.Building.{AreChosenTo}
use Rattle.pc_nested.proofs.counting.chosen.Given as goal

abbrev pub invariant-loop-cell : goal.invariant-loop-cell
invariant-loop-cell l = AreChosenTo l.p l.lows l.highs l.cell l.counts
