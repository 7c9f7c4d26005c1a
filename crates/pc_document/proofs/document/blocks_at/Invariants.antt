use Rattle.std.proofs.Common.{◌≡◌, length}
use Rattle.pc_document_format.specs.Formats.{after_items, read_many}
use Rattle.pc_document.specs.Places.{IsLineStart, lines_at}
use Rattle.pc_document.specs.Reading.{read_block}
use Rattle.pc_document_lines.specs.TokenLines.{begins_query}
use Rattle.pc_document.proofs.document.blocks_at.Given as goal

abbrev pub invariant-loop-line : goal.invariant-loop-line
invariant-loop-line l =
    (after_items l.found (read_many begins_query (read_block l.fn.schema) (lines_at l.bytes l.at)) ≡ read_many begins_query (read_block l.fn.schema) (lines_at l.bytes l.start)) × IsLineStart l.bytes l.at

abbrev pub decreases-loop-line : goal.decreases-loop-line
decreases-loop-line l = length (lines_at l.bytes l.at)
