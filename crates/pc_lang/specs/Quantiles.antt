-- Quantiles: which one a text stands for, or the first fault, and their canonical text.
use Rattle.std.specs.Prelude.{◌≤◌, ℕ, ◌==◌, ◌||◌, unsigned_abs, nat_lt, List, Result, Ok, Err, if◌then◌else◌}
use Rattle.std.specs.Char.{is_ascii_digit}
use Rattle.std.specs.List.{list_all}
use Rattle.pc_model.specs.declared.fault.FileKind.TheVariants as files
use Rattle.pc_model.specs.declared.fault.Reason.{Reason}
use Rattle.pc_model.specs.declared.fault.Reason.TheVariants as reasons
use Rattle.pc_model.specs.declared.fault.Fault.{Fault}
use Rattle.pc_model.specs.declared.schema.Schema.{Schema}
use Rattle.pc_model.specs.declared.area.Area.{Area}
use Rattle.pc_model.specs.Accepted.{IsNumeric, IsColumnWhere}
use Rattle.pc_model.specs.Boxes.{IsAreaOf}
use Rattle.pc_model.specs.Numbers.{number_of}
use Rattle.pc_model.specs.Refusals.{◌>>=◌, placed}
use Rattle.pc_lang_tokens.specs.Lexing.{tokens_of}
use Rattle.pc_lang_tokens.specs.Texts.{tokens_text}
use Rattle.pc_lang_grammar.specs.declared.syntax.QuantileQuestion.{QuantileQuestion}
use Rattle.pc_lang_grammar.specs.Grammar.{quantile_tokens}
use Rattle.pc_lang_grammar.specs.Parsing.{quantile_of}
use Rattle.pc_lang.specs.declared.quantile.Quantile.{Quantile}
use Rattle.pc_lang.specs.Canonical.{chosen_for, count_text, name_at}
use Rattle.pc_lang.specs.Meaning.{chosen_of, numeric_place}

-- a share of more than none and at most one, of a column of numbers
pub record IsQuantile (schema : Schema) (asked : Quantile) : Type 0 where
  pub some : 1 ≤ asked.p
  pub most : asked.p ≤ asked.q
  pub few : asked.q ≤ 1000
  pub numeric : IsColumnWhere IsNumeric schema asked.column
  pub chosen : IsAreaOf schema asked.chosen

abbrev pub share_limit : ℕ
share_limit = 1000

abbrev pub in_limit : ℕ → Result ℕ Reason
in_limit n = if (n == 0) || nat_lt share_limit n then Err reasons.PastLimit else Ok n

-- one of the two numbers: digits alone, not 0, and not past its limit
unfoldable pub share_of : List ℕ → Result ℕ Reason
share_of text = if list_all is_ascii_digit text then (number_of 0 text >>= λ n. in_limit (unsigned_abs n)) else Err reasons.BadNumber

-- the first of the two numbers is at most the second
abbrev pub at_most_one : ℕ → ℕ → Result (ℕ × ℕ) Reason
at_most_one p q = if nat_lt q p then Err reasons.LeastOverMost else Ok (p, q)

-- the share that two numbers are
unfoldable pub shares_of : List ℕ → List ℕ → Result (ℕ × ℕ) Reason
shares_of first second = do
  p ← share_of first
  q ← share_of second
  at_most_one p q

abbrev pub asked_of : ℕ × ℕ → ℕ → Area → Result Quantile Reason
asked_of share column chosen = Ok (record { p = share.0; q = share.1; column = column; chosen = chosen })

-- the quantile of a question: the checks of meaning, in their order
unfoldable pub quantile_of_question : Schema → QuantileQuestion → Result Quantile Reason
quantile_of_question schema question = do
  share ← shares_of question.p question.q
  column ← numeric_place schema question.column
  chosen ← chosen_of schema question.chosen
  asked_of share column chosen

-- the question that a text spells
unfoldable pub quantile_question_from : List ℕ → Result QuantileQuestion Reason
quantile_question_from text = tokens_of text >>= quantile_of

-- the quantile of a text, at its place among the queries
unfoldable pub quantile_from : Schema → List ℕ → Result Quantile Reason
quantile_from schema text = quantile_question_from text >>= quantile_of_question schema

abbrev pub quantile_at : Schema → ℕ → List ℕ → Result Quantile Fault
quantile_at schema place text = placed files.Query place (quantile_from schema text)

unfoldable pub quantile_question_for : Schema → Quantile → QuantileQuestion
quantile_question_for schema asked = record {
  p = count_text asked.p;
  q = count_text asked.q;
  column = name_at schema.columns asked.column;
  chosen = chosen_for schema asked.chosen;
}

unfoldable pub quantile_text : Schema → Quantile → List ℕ
quantile_text schema asked = tokens_text (quantile_tokens (quantile_question_for schema asked))
