use Rattle.std.proofs.Common.{◌≡◌, ◌-◌}
use Rattle.pc_document_lines.specs.TokenLines.{group_found}
use Rattle.pc_document_lines.proofs.group_lines.read_group.Given as goal

-- what is left decides
abbrev pub invariant-loop-place : goal.invariant-loop-place
invariant-loop-place l = group_found l.schema l.group l.place (l.count - l.place) l.line ≡ group_found l.schema l.group 0 l.count l.line
