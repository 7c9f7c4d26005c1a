use Rattle.std.proofs.Common.{◌≡◌, ◌++◌, drop}
use Rattle.pc_desk_meanings.specs.Columns.{names_in}
use Rattle.pc_desk_meanings.proofs.column.names_in.Given as goal

abbrev pub invariant-loop-column : goal.invariant-loop-column
invariant-loop-column l = l.names ++ names_in (drop l.column-index l.columns) ≡ names_in l.columns
