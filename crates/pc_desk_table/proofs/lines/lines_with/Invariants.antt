use Rattle.std.proofs.Common.{◌≡◌, ◌++◌, take}
use Rattle.std.specs.List.{flat_map}
use Rattle.pc_desk_table.specs.Lines.{entry_text, titles_text}
use Rattle.pc_desk_table.proofs.lines.lines_with.Given as goal

abbrev pub invariant-loop-entry : goal.invariant-loop-entry
invariant-loop-entry l = l.text.items ≡ titles_text l.places ++ flat_map (entry_text l.places) (take l.entry-index l.entries)
