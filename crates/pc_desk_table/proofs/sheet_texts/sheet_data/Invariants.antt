use Rattle.std.proofs.Common.{◌≡◌, map, take}
use Rattle.serde_json.specs.View.{view}
use Rattle.pc_desk_table.specs.Sheets.{sheet_row_data}
use Rattle.pc_desk_table.proofs.sheet_texts.sheet_data.Given as goal

abbrev pub invariant-loop-row : goal.invariant-loop-row
invariant-loop-row l = map view l.values.items ≡ map (sheet_row_data l.titles) (take l.row-index l.rows)
