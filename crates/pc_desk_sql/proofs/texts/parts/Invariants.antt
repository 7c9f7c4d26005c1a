use Rattle.std.proofs.Common.{◌≡◌, take}
use Rattle.std.specs.Prelude.{flat_map}
use Rattle.pc_desk_sql.specs.Texts.{part_byte}
use Rattle.pc_desk_sql.proofs.texts.parts.Given as goal

abbrev pub invariant-loop-byte : goal.invariant-loop-byte
invariant-loop-byte l = l.out.items ≡ flat_map part_byte (take l.byte-index l.table)
