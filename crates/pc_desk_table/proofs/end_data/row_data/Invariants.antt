use Rattle.std.proofs.Common.{◌≡◌, fold, take}
use Rattle.serde_json.specs.Data.{no_members}
use Rattle.serde_json.specs.View.{members_view}
use Rattle.pc_desk_table.specs.Json.{put_field}
use Rattle.pc_desk_table.proofs.end_data.row_data.Given as goal

abbrev pub invariant-loop-field : goal.invariant-loop-field
invariant-loop-field l = members_view l.members.entries ≡ fold put_field no_members (take l.field-index l.fields)
