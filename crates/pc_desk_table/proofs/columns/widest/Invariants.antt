use Rattle.std.proofs.Common.{◌≡◌, fold, take}
use Rattle.pc_desk_table.specs.Lines.{text_width, title, wider}
use Rattle.pc_desk_table.proofs.columns.widest.Given as goal

abbrev pub invariant-loop-entry : goal.invariant-loop-entry
invariant-loop-entry l = l.width ≡ fold (wider l.column) (text_width (title l.column)) (take l.entry-index l.entries)
