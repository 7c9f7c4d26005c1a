use Rattle.std.proofs.Common.{◌≡◌, take}
use Rattle.pc_schema.specs.Plain.{plain_text}
use Rattle.pc_desk_schema.proofs.written.columns_text.Given as goal

abbrev pub invariant-loop-column : goal.invariant-loop-column
invariant-loop-column l = l.text.items ≡ plain_text (take l.column-index l.columns)
