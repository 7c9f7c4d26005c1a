use Rattle.std.proofs.Common.{◌≡◌, ◌++◌, drop}
use Rattle.pc_desk_limit.specs.Lines.{closing_lines}
use Rattle.pc_desk_limit.proofs.lines.with_lines.Given as goal

abbrev pub invariant-loop-name : goal.invariant-loop-name
invariant-loop-name l = l.lines ++ closing_lines l.schema (drop l.name-index l.names) l.left ≡ l.fn.constraints ++ closing_lines l.schema l.names l.boxes
