use Rattle.std.proofs.Common.{ℕ, ◌<◌, ◌≤◌}
use Rattle.pc_program_bound.specs.Sums.{nat_at}
use Rattle.pc_program_bound.proofs.allocation.are_within.Given as goal

abbrev pub invariant-loop-cell : goal.invariant-loop-cell
invariant-loop-cell l = (i : ℕ) → i < l.cell → (nat_at l.floors i ≤ nat_at l.counts i) × (nat_at l.counts i ≤ nat_at l.caps i)
