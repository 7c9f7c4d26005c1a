use Rattle.std.proofs.Common.{◌≡◌, ◌<◌, ◌^◌, drop}
use Rattle.pc_document_lines.specs.Numbers.{digits_value}
use Rattle.pc_document_lines.proofs.numbers.digits_value.Given as goal

abbrev pub invariant-loop-byte : goal.invariant-loop-byte
invariant-loop-byte l = (digits_value l.number (drop l.byte-index l.text) ≡ digits_value 0 l.fn.text) × (l.number < 2 ^ 127)
