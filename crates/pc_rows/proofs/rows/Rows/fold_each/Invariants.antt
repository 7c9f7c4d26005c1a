use Rattle.pc_rows.proofs.Grouping.{AreFoldedTo}
use Rattle.pc_rows.proofs.rows.Rows.fold_each.Given as goal

abbrev pub invariant-loop-place : goal.invariant-loop-place
invariant-loop-place l = AreFoldedTo l.query l.names l.self l.place l.folds.items
