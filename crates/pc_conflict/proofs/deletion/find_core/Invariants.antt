use Rattle.pc_conflict.specs.Deleting.{IsDeletion}
use Rattle.pc_conflict.proofs.deletion.find_core.Given as goal

abbrev pub invariant-loop-place : goal.invariant-loop-place
invariant-loop-place l = IsDeletion l.schema l.constraints l.place l.deletion
