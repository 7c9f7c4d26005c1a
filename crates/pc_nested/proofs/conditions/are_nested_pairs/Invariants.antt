use Rattle.std.proofs.Common.{ℕ, ◌<◌}
use Rattle.pc_program_bound.specs.Allocation.{constraints_of}
use Rattle.pc_nested.specs.Nested.{AreNestedPair}
use Rattle.pc_nested.proofs.conditions.are_nested_pairs.Given as goal

abbrev pub invariant-loop-constraint : goal.invariant-loop-constraint
invariant-loop-constraint l = (j : ℕ) → j < l.constraint → (k : ℕ) → k < constraints_of l.p → AreNestedPair l.p j k
