use Rattle.std.proofs.Common.{◌≡◌, ◌++◌, drop}
use Rattle.pc_document_lines.specs.NodeLines.{numbers_text}
use Rattle.pc_document_lines.proofs.nodes.put_numbers.Given as goal

abbrev pub invariant-loop-number : goal.invariant-loop-number
invariant-loop-number l = l.out.items ++ numbers_text (drop l.number-index l.numbers) ≡ l.fn.out.items ++ numbers_text l.fn.numbers
