use Rattle.std.proofs.Common.{◌≡◌, take}
use Rattle.std.specs.List.{flat_map}
use Rattle.pc_desk_draw.specs.Rows.{row_text}
use Rattle.pc_desk_draw.proofs.rows.rows_text.Given as goal

abbrev pub invariant-loop-entry : goal.invariant-loop-entry
invariant-loop-entry l = l.text.items ≡ flat_map (row_text l.layout) (take l.entry-index l.entries)
