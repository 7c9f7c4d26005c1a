use Rattle.std.proofs.Common.{ℕ, ◌<◌, ◌≤◌}
use Rattle.pc_program_bound.specs.Sums.{nat_at}
use Rattle.pc_program_bound.proofs.program.are_inside.Given as goal

abbrev pub invariant-loop-cell : goal.invariant-loop-cell
invariant-loop-cell l = (i : ℕ) → i < l.cell → (nat_at l.lows i ≤ nat_at l.floor i) × (nat_at l.floor i ≤ nat_at l.cap i) × (nat_at l.cap i ≤ nat_at l.highs i)
