use Rattle.std.proofs.Common.{ℕ, ◌<◌, ◌^◌, nat_abs}
use Rattle.pc_program_bound.specs.Sums.{int_at}
use Rattle.pc_nested.proofs.conditions.are_small.Given as goal

abbrev pub invariant-loop-gain : goal.invariant-loop-gain
invariant-loop-gain l = (i : ℕ) → i < l.gain-index → nat_abs (int_at l.gains i) < 2 ^ 87
