use Rattle.std.proofs.Common.{◌≡◌, take}
use Rattle.std.specs.List.{flat_map}
use Rattle.pc_desk_table.specs.Sheets.{shown_in}
use Rattle.pc_desk_table.proofs.sheet_texts.shown_cells.Given as goal

abbrev pub invariant-loop-column : goal.invariant-loop-column
invariant-loop-column l = l.line.items ≡ flat_map (shown_in l.row) (take l.column-index l.columns)
