-- The text of a quantile and of its answer.
use Rattle.std.specs.Prelude.{codes, ℕ, List, [], ◌∷◌}
use Rattle.std.specs.List.{concat}
use Rattle.pc_model.specs.declared.schema.Schema.{Schema}
use Rattle.pc_proof.specs.Unbroken.{plain_answer}
use Rattle.pc_report.specs.Report.{answer_text, line_break}
use Rattle.pc_lang.specs.declared.quantile.Quantile.{Quantile}
use Rattle.pc_quantile.specs.declared.answer.QuantileAnswer.{QuantileAnswer}
use Rattle.pc_quantile.specs.Measured.{least_of}
use Rattle.pc_quantile.specs.Shown.{shown}

-- the query, and the lines of an answer to the least number
unfoldable pub block_text : Schema → List ℕ → Quantile → QuantileAnswer → List ℕ
block_text schema canonical asked answer = concat (codes "query " ∷ canonical ∷ line_break ∷ answer_text schema (least_of asked) (plain_answer (shown answer)) ∷ [])
