use Rattle.std.proofs.Common.{◌≡◌, length, map, take}
use Rattle.std.specs.List.{enumerate_from}
use Rattle.pc_desk_table.specs.Sheets.{sheet_column}
use Rattle.pc_desk_table.proofs.sheet_columns.sheet_columns.Given as goal

abbrev pub invariant-loop-place : goal.invariant-loop-place
invariant-loop-place l = l.columns.items ≡ map (sheet_column (length l.titles) l.rows) (enumerate_from 0 (take l.place l.titles))
