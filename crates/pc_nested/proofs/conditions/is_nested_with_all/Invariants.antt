use Rattle.std.proofs.Common.{ℕ, ◌<◌}
use Rattle.pc_nested.specs.Nested.{AreNestedPair}
use Rattle.pc_nested.proofs.conditions.is_nested_with_all.Given as goal

abbrev pub invariant-loop-other : goal.invariant-loop-other
invariant-loop-other l = (k : ℕ) → k < l.other → AreNestedPair l.p l.constraint k
