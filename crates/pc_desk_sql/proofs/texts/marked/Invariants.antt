use Rattle.std.proofs.Common.{◌≡◌, take}
use Rattle.std.specs.Prelude.{flat_map}
use Rattle.pc_desk_sql.specs.Texts.{marked_byte}
use Rattle.pc_desk_sql.proofs.texts.marked.Given as goal

abbrev pub invariant-loop-byte : goal.invariant-loop-byte
invariant-loop-byte l = l.out.items ≡ flat_map (marked_byte l.mark) (take l.byte-index l.text)
