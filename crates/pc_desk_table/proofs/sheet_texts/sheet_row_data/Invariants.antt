use Rattle.std.proofs.Common.{◌≡◌, fold, take}
use Rattle.std.specs.List.{enumerate_from}
use Rattle.serde_json.specs.Data.{no_members}
use Rattle.serde_json.specs.View.{members_view}
use Rattle.pc_desk_table.specs.Sheets.{put_cell}
use Rattle.pc_desk_table.proofs.sheet_texts.sheet_row_data.Given as goal

abbrev pub invariant-loop-place : goal.invariant-loop-place
invariant-loop-place l = members_view l.members.entries ≡ fold (put_cell l.row) no_members (enumerate_from 0 (take l.place l.titles))
