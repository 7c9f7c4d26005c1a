use Rattle.std.proofs.Common.{◌≡◌, ◌-◌, ◌^◌, ◌<◌, length, drop}
use Rattle.pc_lang.specs.Claims.{bits_of}
use Rattle.pc_document_lines.specs.TokenLines.{names_of}
use Rattle.pc_document_lines.proofs.cut_lines.bits_of.Given as goal

-- the bits of the names that were passed, which have room
abbrev pub invariant-loop-place : goal.invariant-loop-place
invariant-loop-place l = record {
  bits : l.bits ≡ bits_of (names_of l.rest) (drop l.place l.names);
  small : l.bits < 2 ^ (length l.names - l.place);
}
