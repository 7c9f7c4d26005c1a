use Rattle.std.proofs.Common.{◌≡◌, ◌++◌, take}
use Rattle.std.specs.List.{flat_map}
use Rattle.pc_desk_table.specs.Sheets.{sheet_line, title_cells}
use Rattle.pc_desk_table.proofs.sheet_texts.sheet_lines_by.Given as goal

abbrev pub invariant-loop-row : goal.invariant-loop-row
invariant-loop-row l = l.text.items ≡ sheet_line l.columns (title_cells l.sheet.titles) ++ flat_map (sheet_line l.columns) (take l.row-index l.rows)
