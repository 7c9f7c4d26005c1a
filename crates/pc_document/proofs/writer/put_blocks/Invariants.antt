use Rattle.std.proofs.Common.{◌≡◌, ◌++◌, drop}
use Rattle.pc_document_format.specs.Lines.{lines_text}
use Rattle.pc_document_format.specs.Formats.{items_text}
use Rattle.pc_document.specs.DocumentLines.{block_lines}
use Rattle.pc_document.proofs.writer.put_blocks.Given as goal

abbrev pub invariant-loop-block : goal.invariant-loop-block
invariant-loop-block l =
    l.out.items ++ lines_text (items_text (block_lines l.fn.schema) (drop l.block-index l.blocks)) ≡ l.fn.out.items ++ lines_text (items_text (block_lines l.fn.schema) l.blocks)
