use Rattle.std.proofs.Common.{◌≡◌, ◌++◌, drop}
use Rattle.std.specs.Prelude.{map}
use Rattle.pc_document_lines.specs.Numbers.{likely_number}
use Rattle.pc_document_lines.proofs.nodes.numbers_of.Given as goal

abbrev pub invariant-loop-piece : goal.invariant-loop-piece
invariant-loop-piece l = l.numbers ++ map likely_number (map (λ piece. piece.now) (drop l.piece-index l.pieces)) ≡ map likely_number (map (λ piece. piece.now) l.fn.pieces)
