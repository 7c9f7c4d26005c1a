use Rattle.std.proofs.Common.{◌≡◌, map, take}
use Rattle.pc_desk_table.specs.Sheets.{title_cell}
use Rattle.pc_desk_table.proofs.sheet_columns.title_cells.Given as goal

abbrev pub invariant-loop-title : goal.invariant-loop-title
invariant-loop-title l = l.cells.items ≡ map title_cell (take l.title-index l.titles)
