use Rattle.std.proofs.Common.{ℕ, ◌<◌, pos}
use Rattle.std.specs.Prelude.{◌≤ℤ◌}
use Rattle.pc_program_bound.specs.Sums.{nat_at}
use Rattle.pc_program_bound.specs.Allocation.{total}
use Rattle.pc_program_bound.proofs.allocation.are_met.Given as goal

abbrev pub invariant-loop-constraint : goal.invariant-loop-constraint
invariant-loop-constraint l = (j : ℕ) → j < l.constraint → (pos (nat_at l.p.least j) ≤ℤ total l.p l.counts j) × (total l.p l.counts j ≤ℤ pos (nat_at l.p.most j))
