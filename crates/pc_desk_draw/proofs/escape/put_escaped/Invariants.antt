use Rattle.std.proofs.Common.{◌≡◌, ◌++◌, drop}
use Rattle.pc_desk_draw.specs.Escapes.{escaped, escaped_after}
use Rattle.pc_desk_draw.proofs.escape.put_escaped.Given as goal

-- what is left decides
abbrev pub invariant-loop-byte : goal.invariant-loop-byte
invariant-loop-byte l = l.out.items ++ escaped_after l.first l.second (drop l.byte-index l.text) ≡ l.fn.out.items ++ escaped l.text
