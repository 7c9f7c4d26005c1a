-- A fault of a question names the query.
use Rattle.std.proofs.Common.{ℕ, ◌+◌, Bool, true, false, is_some, List, [], ◌∷◌, codes, Option, Some, None, Result, Ok, Err}
use Rattle.pc_model.specs.declared.fault.FileKind.TheVariants as kinds
use Rattle.pc_model.specs.declared.fault.Fault.{Fault}
use Rattle.pc_model.specs.declared.schema.Schema.{Schema}
use Rattle.pc_model.specs.declared.query.Query.{Query}
use Rattle.pc_model.specs.Refusals.{◌>>=◌}
use Rattle.pc_lang.specs.declared.quantile.Quantile.{Quantile}
use Rattle.pc_lang.specs.Files.{query_at, query_from}
use Rattle.pc_lang.specs.Quantiles.{quantile_at}
use Rattle.pc_files.proofs.FaultFiles.{IsOf, placed_of, quantile_of_word, then_of}
use Rattle.pc_desk_answers.specs.Questions.{called, half_of, other_at, plain, question_at, question_with, questions_from, share}

of_plain : (read : Result Query Fault) → IsOf kinds.Query read → IsOf kinds.Query (plain read)
of_plain (Ok query) is = tt
of_plain (Err fault) is = is

of_share : (read : Result Quantile Fault) → IsOf kinds.Query read → IsOf kinds.Query (share read)
of_share (Ok asked) is = tt
of_share (Err fault) is = is

of_other : (schema : Schema) (place : ℕ) (text : List ℕ) (quantile : Bool) → IsOf kinds.Query (other_at schema place text quantile)
of_other schema place text true = of_share (quantile_at schema place text) (quantile_of_word schema place text)
of_other schema place text false = of_plain (query_at schema place text) (placed_of kinds.Query place (query_from schema text))

of_question : (schema : Schema) (place : ℕ) (text : List ℕ) (median : Option (List ℕ)) → IsOf kinds.Query (question_with schema place text median)
of_question schema place text (Some rest) = of_share (quantile_at schema place (half_of rest)) (quantile_of_word schema place (half_of rest))
of_question schema place text None = of_other schema place text (is_some (called (codes "quantile") text))

question_of_word : (schema : Schema) (place : ℕ) (text : List ℕ) → IsOf kinds.Query (question_at schema place text)
unfolding question_at
question_of_word schema place text = of_question schema place text (called (codes "median") text)

pub questions_of_words : (schema : Schema) (place : ℕ) (texts : List (List ℕ)) → IsOf kinds.Query (questions_from schema place texts)
unfolding questions_from
questions_of_words schema place [] = tt
questions_of_words schema place (text ∷ texts) =
    then_of kinds.Query (question_at schema place text) (λ question. (questions_from schema (place + 1) texts >>= λ questions. Ok (question ∷ questions))) (question_of_word schema place text)
    (λ question. then_of kinds.Query (questions_from schema (place + 1) texts) (λ questions. Ok (question ∷ questions)) (questions_of_words schema (place + 1) texts) (λ questions. tt))
