use Rattle.std.proofs.Common.{◌≡◌, map, take}
use Rattle.pc_desk_table.specs.Lines.{placed}
use Rattle.pc_desk_table.proofs.columns.layout_with.Given as goal

abbrev pub invariant-loop-column : goal.invariant-loop-column
invariant-loop-column l = l.places.items ≡ map (placed l.entries) (take l.column-index l.columns)
