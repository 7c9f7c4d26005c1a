use Rattle.std.proofs.Common.{◌≡◌, ◌++◌, take}
use Rattle.std.specs.List.{flat_map}
use Rattle.pc_desk_table.specs.Sheets.{sheet_row, title_cells}
use Rattle.pc_desk_table.proofs.sheet_texts.sheet_table.Given as goal

abbrev pub invariant-loop-row : goal.invariant-loop-row
invariant-loop-row l = l.text.items ≡ sheet_row (title_cells l.sheet.titles) ++ flat_map sheet_row (take l.row-index l.rows)
