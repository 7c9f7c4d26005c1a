use Rattle.std.proofs.Common.{◌≡◌, ◌≤◌, ◌*◌, ◌^◌, pos}
use Rattle.pc_program_bound.specs.Sums.{sum_below}
use Rattle.pc_program_bound.specs.Allocation.{count_for}
use Rattle.pc_program_bound.proofs.allocation.total_of.Given as goal

abbrev pub invariant-loop-cell : goal.invariant-loop-cell
invariant-loop-cell l = (pos l.total ≡ sum_below l.cell (count_for l.p l.counts l.constraint)) × (l.total ≤ l.cell * 2 ^ 64)
