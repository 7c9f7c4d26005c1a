use Rattle.std.proofs.Common.{ℕ, ◌<◌, ◌≤◌}
use Rattle.pc_program_bound.specs.Sums.{nat_at}
use Rattle.pc_program_bound.proofs.program.are_ordered.Given as goal

abbrev pub invariant-loop-place : goal.invariant-loop-place
invariant-loop-place l = (i : ℕ) → i < l.place → (nat_at l.lows i ≤ nat_at l.highs i) × (nat_at l.highs i ≤ 1_000_000_000)
