use Rattle.std.proofs.Common.{ℕ, ◌<◌}
use Rattle.pc_program.specs.Conditions.{HasAtMostTwo}
use Rattle.pc_program.proofs.conditions.have_two_at_most.Given as goal

abbrev pub invariant-loop-constraint : goal.invariant-loop-constraint
invariant-loop-constraint l = (k : ℕ) → k < l.constraint → HasAtMostTwo l.p k
