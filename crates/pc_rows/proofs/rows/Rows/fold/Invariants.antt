use Rattle.std.proofs.Common.{None}
use Rattle.pc_rows.proofs.Folding.{IsFoldedTo}
use Rattle.pc_rows.proofs.rows.Rows.fold.Given as goal

abbrev pub invariant-loop-place : goal.invariant-loop-place
invariant-loop-place l = IsFoldedTo l.query None l.self l.place l.folded
