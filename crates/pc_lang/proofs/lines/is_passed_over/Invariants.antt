use Rattle.std.proofs.Common.{◌≡◌, drop}
use Rattle.pc_lang.specs.Files.{is_passed_over}
use Rattle.pc_lang.proofs.lines.is_passed_over.Given as goal

-- what is left decides
abbrev pub invariant-loop-byte : goal.invariant-loop-byte
invariant-loop-byte l = is_passed_over l.line ≡ is_passed_over (drop l.byte-index l.line)
