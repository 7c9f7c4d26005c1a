use Rattle.std.proofs.Common.{◌≡◌, ◌-◌}
use Rattle.pc_program_bound.specs.Sums.{nat_at}
use Rattle.pc_simplex_tableau.specs.Numbers.{table}
use Rattle.pc_simplex.proofs.columns.cell_ranges.Given as goal

abbrev pub invariant-loop-cell : goal.invariant-loop-cell
invariant-loop-cell l = l.ranges ≡ table l.cell (λ i. nat_at l.cap i - nat_at l.floor i)
