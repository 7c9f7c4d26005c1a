use Rattle.std.proofs.Common.{rules, ◌≡◌, ◌∷◌, true, Ok}
use Rattle.pc_document.specs.Places.{HaltsAs, lines_at}
use Rattle.pc_document.specs.Reading.{read_block}
use Rattle.pc_document_lines.specs.TokenLines.{begins_query}
use Rattle.pc_document.proofs.BlockSteps.{block_halts, block_shorter}
use Rattle.pc_document.proofs.document.blocks_at.Goals as goal

pub returns-in-Err : goal.returns-in-Err
returns-in-Err c =
    let is : lines_at c.args.bytes.now c.loop-line.at ≡ c.in-Some.line.now ∷ lines_at c.args.bytes.now c.in-Some._after = search rules in
    let begins : begins_query c.in-Some.line.now ≡ true = search rules in
    let halted : HaltsAs c.args.bytes.now c.in-Err.halt (read_block c.args.schema.now (lines_at c.args.bytes.now c.loop-line.at)) = search rules in
    block_halts c.args.schema.now c.loop-line.found c.args.bytes.now c.loop-line.at _ c.in-Err.halt c.in-Some.line.now _ is begins c.loop-line.invariant.0 halted

pub loop-line-smaller : goal.loop-line-smaller
loop-line-smaller c =
    let found : read_block c.args.schema.now (lines_at c.args.bytes.now c.loop-line.at) ≡ Ok (c.in-Ok.read.0, lines_at c.args.bytes.now c.in-Ok.read.1) = search rules in
    block_shorter c.args.schema.now (lines_at c.args.bytes.now c.loop-line.at) _ _ c.requires.well_formed found
