-- What the texts of queries ask.
use Rattle.std.specs.Prelude.{ℕ, ◌+◌, Bool, true, false, List, [], ◌∷◌, ◌++◌, codes, length, take, drop, bytes_eq, is_some, Option, Some, None, option_and_then, Result, Ok, Err, if◌then◌else◌}
use Rattle.pc_model.specs.declared.fault.Fault.{Fault}
use Rattle.pc_model.specs.declared.schema.Schema.{Schema}
use Rattle.pc_model.specs.declared.query.Query.{Query}
use Rattle.pc_model.specs.Accepted.{IsQuery}
use Rattle.pc_model.specs.Refusals.{◌>>=◌}
use Rattle.pc_script.specs.Script.{after_blanks}
use Rattle.pc_lang.specs.declared.quantile.Quantile.{Quantile}
use Rattle.pc_lang.specs.Files.{query_at}
use Rattle.pc_lang.specs.Quantiles.{IsQuantile, quantile_at}
use Rattle.pc_desk_answers.specs.declared.question.Question.{Question}
use Rattle.pc_desk_table.specs.Texts.{shown}
use Rattle.pc_desk_answers.specs.declared.question.Question.TheVariants.{Plain, Share}

-- what stands after a front, where a text has it
abbrev pub after : List ℕ → List ℕ → Option (List ℕ)
after front text = if bytes_eq (take (length front) text) front then Some (drop (length front) text) else None

-- what stands after a name and an opening parenthesis, with blanks before each of them or none
unfoldable pub called : List ℕ → List ℕ → Option (List ℕ)
called name text = option_and_then (λ rest. after (codes "(") (after_blanks rest)) (after name (after_blanks text))

-- the median is the least number that half of all are at most
abbrev pub half_of : List ℕ → List ℕ
half_of rest = shown (codes "quantile(1, 2, " ++ rest)

abbrev pub plain : Result Query Fault → Result Question Fault
plain (Ok query) = Ok (Plain query)
plain (Err fault) = Err fault

abbrev pub share : Result Quantile Fault → Result Question Fault
share (Ok asked) = Ok (Share asked)
share (Err fault) = Err fault

abbrev pub other_at : Schema → ℕ → List ℕ → Bool → Result Question Fault
other_at schema place text true = share (quantile_at schema place text)
other_at schema place text false = plain (query_at schema place text)

abbrev pub question_with : Schema → ℕ → List ℕ → Option (List ℕ) → Result Question Fault
question_with schema place text (Some rest) = share (quantile_at schema place (half_of rest))
question_with schema place text None = other_at schema place text (is_some (called (codes "quantile") text))

-- the question of a text at its place: a median, another quantile, or a query
unfoldable pub question_at : Schema → ℕ → List ℕ → Result Question Fault
question_at schema place text = question_with schema place text (called (codes "median") text)

-- the questions of texts, the first of which has this place among them
unfoldable pub questions_from : Schema → ℕ → List (List ℕ) → Result (List Question) Fault
questions_from schema place [] = Ok []
questions_from schema place (text ∷ texts) = do
  question ← question_at schema place text
  questions ← questions_from schema (place + 1) texts
  Ok (question ∷ questions)

abbrev pub questions_of : Schema → List (List ℕ) → Result (List Question) Fault
questions_of schema texts = questions_from schema 1 texts

-- a query or quantile of the schema
abbrev pub IsQuestion : Schema → Question → Type 0
IsQuestion schema (Plain query) = IsQuery schema query
IsQuestion schema (Share asked) = IsQuantile schema asked
