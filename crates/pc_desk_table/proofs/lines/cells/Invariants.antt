use Rattle.std.proofs.Common.{◌≡◌, take}
use Rattle.std.specs.List.{flat_map}
use Rattle.pc_desk_table.specs.Lines.{entry_in}
use Rattle.pc_desk_table.proofs.lines.cells.Given as goal

abbrev pub invariant-loop-place : goal.invariant-loop-place
invariant-loop-place l = l.line.items ≡ flat_map (entry_in l.entry) (take l.place-index l.places)
