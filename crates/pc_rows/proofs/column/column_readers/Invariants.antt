use Rattle.std.proofs.Common.{◌≡◌, take}
use Rattle.pc_rows.proofs.column.column_readers.Given as goal

abbrev pub invariant-loop-column : goal.invariant-loop-column
invariant-loop-column l = l.readers ≡ take l.column-index l.columns
