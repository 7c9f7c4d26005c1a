use Rattle.std.proofs.Common.{◌≡◌, ◌++◌, drop}
use Rattle.pc_document_lines.specs.TokenLines.{more_names}
use Rattle.pc_document_lines.proofs.cut_tokens.with_more_names.Given as goal

-- what is listed and what is left are the whole
abbrev pub invariant-loop-name : goal.invariant-loop-name
invariant-loop-name l = l.list ++ more_names (drop l.name-index l.names) ≡ l.fn.list ++ more_names l.names
