use Rattle.std.proofs.Common.{◌≡◌, ℕ, ◌<◌}
use Rattle.pc_program_bound.specs.Sums.{nat_at}
use Rattle.pc_program.proofs.conditions.are_none.Given as goal

abbrev pub invariant-loop-floor : goal.invariant-loop-floor
invariant-loop-floor l = (i : ℕ) → i < l.floor-index → nat_at l.floors i ≡ 0
