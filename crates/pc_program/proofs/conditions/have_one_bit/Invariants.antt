use Rattle.std.proofs.Common.{ℕ, ◌<◌}
use Rattle.pc_program_bound.specs.Sums.{nat_at}
use Rattle.pc_program.specs.Conditions.{HasOneBit}
use Rattle.pc_program.proofs.conditions.have_one_bit.Given as goal

abbrev pub invariant-loop-mask : goal.invariant-loop-mask
invariant-loop-mask l = (i : ℕ) → i < l.mask-index → HasOneBit (nat_at l.masks i) l.constraints
