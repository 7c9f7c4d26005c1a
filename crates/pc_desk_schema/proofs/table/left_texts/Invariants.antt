use Rattle.std.proofs.Common.{◌≡◌, ◌++◌, length}
use Rattle.pc_desk_schema.specs.Columns.{texts_at}
use Rattle.pc_desk_schema.proofs.table.left_texts.Given as goal

abbrev pub invariant-loop-texts : goal.invariant-loop-texts
invariant-loop-texts l = l.texts ++ texts_at l.place l.table ≡ texts_at l.place l.fn.table

abbrev pub decreases-loop-texts : goal.decreases-loop-texts
decreases-loop-texts l = length l.table
