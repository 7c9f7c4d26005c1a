use Rattle.std.proofs.Common.{◌≡◌, ◌≤◌, pos}
use Rattle.pc_program_bound.specs.Sums.{sum_below}
use Rattle.pc_nested.specs.Sized.{one_in}
use Rattle.pc_nested.proofs.ordering.size_of.Given as goal

abbrev pub invariant-loop-cell : goal.invariant-loop-cell
invariant-loop-cell l = (pos l.size ≡ sum_below l.cell (one_in l.p l.place)) × (l.size ≤ l.cell)
