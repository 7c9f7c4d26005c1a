use Rattle.std.proofs.Common.{◌≡◌, ℕ, ◌<◌, ◌≤◌, false}
use Rattle.pc_model.specs.Places.{has_bit}
use Rattle.pc_program.proofs.conditions.first_bit.Given as goal

abbrev pub invariant-loop-place : goal.invariant-loop-place
invariant-loop-place l = (l.from ≤ l.place) × ((j : ℕ) → l.from ≤ j → j < l.place → has_bit l.mask j ≡ false)
