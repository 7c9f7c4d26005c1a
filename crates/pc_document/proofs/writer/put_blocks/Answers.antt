use Rattle.std.proofs.Common.{rules, ◌≡◌, ℕ, List, ◌+◌, ◌++◌, drop, sym, ap, ◌∙◌}
use Rattle.pc_document_format.specs.Lines.{lines_text}
use Rattle.pc_document_format.specs.Formats.{items_text}
use Rattle.pc_document.specs.DocumentLines.{block_lines}
use Rattle.pc_document.proofs.Writing.{items_more, items_end}
use Rattle.pc_document.proofs.writer.put_blocks.Goals as goal

pub loop-block-preserved : goal.loop-block-preserved
loop-block-preserved c =
    let put : c.put_block.new.out.items ≡ c.loop-block.out.items ++ lines_text (block_lines c.args.schema.now c.block-item.result) = search rules in
    ap (λ (items : List ℕ). items ++ lines_text (items_text (block_lines c.args.schema.now) (drop (c.loop-block.block-index + 1) c.args.blocks.now))) put
    ∙ items_more (block_lines c.args.schema.now) c.loop-block.out.items c.args.blocks.now c.loop-block.block-index c.block-item.result c.loop-block-test.true c.block-item.is ∙ c.loop-block.invariant

pub returns : goal.returns
returns c = sym (items_end (block_lines c.args.schema.now) c.loop-block.out.items c.args.blocks.now c.loop-block.block-index (search rules)) ∙ c.loop-block.invariant
