use Rattle.std.proofs.Common.{◌≡◌, map, take}
use Rattle.pc_desk_table.specs.Sheets.{cell_text}
use Rattle.pc_desk_table.proofs.sheet_texts.row_fields.Given as goal

abbrev pub invariant-loop-cell : goal.invariant-loop-cell
invariant-loop-cell l = l.texts.items ≡ map cell_text (take l.cell-index l.row)
