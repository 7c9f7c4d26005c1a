use Rattle.std.proofs.Common.{◌≡◌, ◌+◌, drop}
use Rattle.pc_document_lines.specs.TokenLines.{column_in}
use Rattle.pc_document_lines.proofs.cut_lines.column_in.Given as goal

-- what is left decides
abbrev pub invariant-loop-place : goal.invariant-loop-place
invariant-loop-place l = l.place + column_in (drop l.place l.columns) l.name ≡ column_in l.columns l.name
