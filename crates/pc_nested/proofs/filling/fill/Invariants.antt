use Rattle.std.proofs.Common.{◌≡◌, length}
use Rattle.pc_program_bound.specs.Allocation.{cells_of}
use Rattle.pc_nested.specs.Filled.{IsFilling}
use Rattle.pc_nested.proofs.filling.fill.Given as goal

abbrev pub invariant-loop-filling : goal.invariant-loop-filling
invariant-loop-filling l = record {
  filling : IsFilling l.p l.place l.fn.counts l.highs l.filling.counts l.filling.price l.filling.left l.target;
  sized : length l.filling.counts ≡ cells_of l.p;
}

abbrev pub decreases-loop-filling : goal.decreases-loop-filling
decreases-loop-filling l = l.filling.left
