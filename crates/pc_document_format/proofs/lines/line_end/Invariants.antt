use Rattle.std.proofs.Common.{◌≡◌, ◌-◌, take, drop}
use Rattle.pc_document_format.specs.Lines.{feeds_in}
use Rattle.pc_document_format.proofs.lines.line_end.Given as goal

abbrev pub invariant-loop-end : goal.invariant-loop-end
invariant-loop-end l = feeds_in (take (l.end - l.at) (drop l.at l.bytes)) ≡ 0
