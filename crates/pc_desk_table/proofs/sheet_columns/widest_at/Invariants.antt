use Rattle.std.proofs.Common.{◌≡◌, fold, take}
use Rattle.pc_desk_table.specs.Lines.{text_width}
use Rattle.pc_desk_table.specs.Sheets.{wider_at}
use Rattle.pc_desk_table.proofs.sheet_columns.widest_at.Given as goal

abbrev pub invariant-loop-row : goal.invariant-loop-row
invariant-loop-row l = l.width ≡ fold (wider_at l.place) (text_width l.name) (take l.row-index l.rows)
