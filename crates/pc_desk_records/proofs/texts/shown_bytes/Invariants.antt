use Rattle.std.proofs.Common.{◌≡◌, ◌++◌, map, drop}
use Rattle.pc_desk_records.specs.Shown.{shown_byte}
use Rattle.pc_desk_records.proofs.texts.shown_bytes.Given as goal

-- what is written and what is left are the whole
abbrev pub invariant-loop-byte : goal.invariant-loop-byte
invariant-loop-byte l = l.out.items ++ map shown_byte (drop l.byte-index l.text) ≡ map shown_byte l.text
