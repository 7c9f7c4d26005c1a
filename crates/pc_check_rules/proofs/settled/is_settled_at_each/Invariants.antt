use Rattle.std.proofs.Common.{ℕ, ◌<◌, slice_index_or}
use Rattle.pc_model.specs.declared.constraint.Constraint.{Constraint}
use Rattle.pc_model.specs.Cells.{IsSettledAt}
use Rattle.pc_check_rules.proofs.settled.is_settled_at_each.Given as goal

abbrev pub invariant-loop-place : goal.invariant-loop-place
invariant-loop-place l = (k : ℕ) (c : Constraint) → k < l.place → IsSettledAt l.constraints l.part l.mask k (slice_index_or l.constraints k c)
