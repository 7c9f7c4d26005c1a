-- The summary of the answers to a generated case.
use Rattle.std.specs.Prelude.{ℕ, List, [], ◌∷◌, ◌++◌, codes, decimal, flat_map, Option, Some, None}
use Rattle.std.specs.List.{concat}
use Rattle.pc_model.specs.declared.schema.Schema.{Schema}
use Rattle.pc_model.specs.declared.query.Query.{Query}
use Rattle.pc_lang.specs.Canonical.{query_text}
use Rattle.pc_proof.specs.declared.answer.Mark.{Mark}
use Rattle.pc_proof.specs.declared.answer.Mark.TheVariants as marks
use Rattle.pc_proof.specs.declared.answer.End.{End}
use Rattle.pc_proof.specs.declared.document.Block.{Block}
use Rattle.pc_proof.specs.declared.document.Document.{Document}
use Rattle.pc_report.specs.Report.{line_break, value_text}

-- a line of a word and a number
unfoldable pub count_line : List ℕ → ℕ → List ℕ
count_line word count = concat (word ∷ codes " " ∷ decimal count ∷ line_break ∷ [])

abbrev pub mark_word : Mark → List ℕ
mark_word (marks.Exact runs) = codes " exact"
mark_word marks.Outer = codes " outer"

-- the value of an end, with a word for the side before it and one for the mark after it
unfoldable pub end_words : Schema → Query → List ℕ → End → List ℕ
end_words schema query side end = concat (side ∷ value_text schema query.agg query.column end.value ∷ mark_word end.mark ∷ [])

-- both ends; without them no relation gives a value
abbrev pub ends_words : Schema → Query → Option (End × End) → List ℕ
ends_words schema query None = codes " none always"
ends_words schema query (Some ends) = end_words schema query (codes " low ") ends.0 ++ end_words schema query (codes " high ") ends.1

unfoldable pub summary_line : Schema → Block → List ℕ
summary_line schema block = concat (query_text schema block.query ∷ ends_words schema block.query block.answer.ends ∷ line_break ∷ [])

unfoldable pub summary_lines : Schema → List Block → List ℕ
summary_lines schema blocks = flat_map (summary_line schema) blocks

-- how many rows were observed, how many constraints there are, and a line for each block
abbrev pub summary_text : Schema → ℕ → ℕ → Document → List ℕ
summary_text schema rows constraints doc =
    concat (count_line (codes "rows") rows ∷ count_line (codes "constraints") constraints ∷ summary_lines schema doc.blocks ∷ [])
