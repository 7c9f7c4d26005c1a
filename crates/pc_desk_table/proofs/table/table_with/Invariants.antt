use Rattle.std.proofs.Common.{◌≡◌, ◌++◌, take}
use Rattle.std.specs.List.{flat_map}
use Rattle.csv.specs.Writing.{default_writer, row_text}
use Rattle.pc_desk_table.specs.Table.{header, record_text}
use Rattle.pc_desk_table.proofs.table.table_with.Given as goal

abbrev pub invariant-loop-entry : goal.invariant-loop-entry
invariant-loop-entry l = l.text.items ≡ row_text default_writer (header l.lined) ++ flat_map (record_text l.lined) (take l.entry-index l.entries)
