use Rattle.std.proofs.Common.{◌≡◌, ◌+◌, drop}
use Rattle.pc_document_lines.specs.TokenLines.{place_in}
use Rattle.pc_document_lines.proofs.run_lines.place_of.Given as goal

-- what is left decides
abbrev pub invariant-loop-place : goal.invariant-loop-place
invariant-loop-place l = l.place + place_in (drop l.place l.names) l.name ≡ place_in l.names l.name
