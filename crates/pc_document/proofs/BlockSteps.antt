-- Blocks, one after another.
use Rattle.std.proofs.Common.{◌≡◌, ℕ, ◌<◌, true, false, List, [], ◌∷◌, ◌++◌, length, Ok, Err, sym, ap, ◌∙◌, arith}
use Rattle.std.proofs.lemmas.List.{length-append}
use Rattle.pc_model.specs.declared.schema.Schema.{Schema}
use Rattle.pc_model.specs.WellFormed.{IsWellFormed}
use Rattle.pc_proof.specs.declared.document.Block.{Block}
use Rattle.pc_proof.specs.Form.{IsFormedBlock}
use Rattle.pc_document.specs.declared.halt.Halt.{Halt}
use Rattle.pc_document.specs.declared.halt.Halt.TheVariants as halts
use Rattle.pc_document.specs.Places.{HaltsAs, lines_at}
use Rattle.pc_document_format.specs.Formats.{Lines, Found, after_items, read_many}
use Rattle.pc_document_format.proofs.Loops.{many_none, many_over, many_refused, value_more}
use Rattle.pc_document_lines.specs.TokenLines.{begins_query}
use Rattle.pc_document.specs.DocumentLines.{block_lines}
use Rattle.pc_document.specs.Reading.{read_block}
use Rattle.pc_document_lines.proofs.AllLines.{all_lines}
use Rattle.pc_document.proofs.DocumentFormat.{block_format}
use Rattle.pc_document_lines.proofs.QueriesBack.{query_begins}

pub block_more : (schema : Schema) (before : List Block) (lines : Lines) (line : List ℕ) (rest left : Lines) (block : Block) → IsWellFormed schema → lines ≡ line ∷ rest → begins_query line ≡ true → read_block schema lines ≡ Ok (block, left)
    → after_items before (read_many begins_query (read_block schema) lines) ≡ after_items (before ++ block ∷ []) (read_many begins_query (read_block schema) left)
block_more schema before lines line rest left block well =
    value_more (IsFormedBlock schema) (block_lines schema) (read_block schema) begins_query (block_format schema (all_lines schema well)) (λ b good. query_begins schema b.query) before lines line rest left block

pub block_refused : (schema : Schema) (before : List Block) (lines left : Lines) (line : List ℕ) (rest : Lines) → lines ≡ line ∷ rest → begins_query line ≡ true → read_block schema lines ≡ Err left
    → after_items before (read_many begins_query (read_block schema) lines) ≡ Err left
block_refused schema = many_refused begins_query (read_block schema)

pub block_over : (schema : Schema) (before : List Block) (lines : Lines) (line : List ℕ) (rest : Lines) → lines ≡ line ∷ rest → begins_query line ≡ false → after_items before (read_many begins_query (read_block schema) lines) ≡ Ok (before, lines)
block_over schema = many_over begins_query (read_block schema)

pub no_block : (schema : Schema) (before : List Block) (lines : Lines) → lines ≡ [] → after_items before (read_many begins_query (read_block schema) lines) ≡ Ok (before, lines)
no_block schema = many_none begins_query (read_block schema)

-- a block takes a line at least
pub block_shorter : (schema : Schema) (lines left : Lines) (block : Block) → IsWellFormed schema → read_block schema lines ≡ Ok (block, left) → length left < length lines
block_shorter schema lines left block well found =
    let known = (block_format schema (all_lines schema well)).sound lines left block found in
    let whole : length lines ≡ length (block_lines schema block ++ left) = ap (λ (ls : Lines). length ls) known.1 in
    let parts = length-append (block_lines schema block) left in
    omega arith

-- reading ends in a block as it does in the whole
pub block_halts : (schema : Schema) (before : List Block) (bytes : List ℕ) (at : ℕ) (whole : Found (List Block)) (halt : Halt) (line : List ℕ) (rest : Lines) → lines_at bytes at ≡ line ∷ rest → begins_query line ≡ true
    → after_items before (read_many begins_query (read_block schema) (lines_at bytes at)) ≡ whole → HaltsAs bytes halt (read_block schema (lines_at bytes at)) → HaltsAs bytes halt whole
block_halts schema before bytes at whole (halts.Fault end) line rest is begins so_far h = (h.0, sym so_far ∙ block_refused schema before (lines_at bytes at) (lines_at bytes end) line rest is begins h.1)
block_halts schema before bytes at whole halts.Memory line rest is begins so_far h = tt

pub ruleset steps = (block_more, block_refused, block_over, no_block)
