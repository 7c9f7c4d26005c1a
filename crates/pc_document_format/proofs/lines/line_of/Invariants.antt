use Rattle.std.proofs.Common.{◌≡◌, ◌+◌, ◌≤◌, take}
use Rattle.pc_document_format.specs.Lines.{feeds_in}
use Rattle.pc_document_format.proofs.lines.line_of.Given as goal

abbrev pub invariant-loop-place : goal.invariant-loop-place
invariant-loop-place l = (l.line ≡ feeds_in (take l.place l.bytes) + 1) × (l.line ≤ l.place + 1)
