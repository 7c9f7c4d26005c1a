-- The tokens of canonical lines and questions are spelled, if the texts of numbers are.
use Rattle.std.proofs.Common.{◌≡◌, ℕ, ◌≤◌, true, List, All, ℤ, refl}
use Rattle.pc_num.specs.Put.{scaled_text}
use Rattle.pc_model.specs.declared.schema.Schema.{Schema}
use Rattle.pc_model.specs.declared.constraint.Constraint.{Constraint}
use Rattle.pc_model.specs.declared.query.Query.{Query}
use Rattle.pc_model.specs.Accepted.{AreConstraints, IsNameFor, IsQuery, frequency_limit}
use Rattle.pc_model.specs.Boxes.{IsServable}
use Rattle.pc_model.specs.WellFormed.{IsSmall, IsWellFormed}
use Rattle.pc_lang_tokens.specs.Texts.{are_spelled, is_number, is_spelled}
use Rattle.pc_lang_grammar.specs.Grammar.{line_tokens, quantile_tokens, question_tokens}
use Rattle.pc_lang.specs.declared.quantile.Quantile.{Quantile}
use Rattle.pc_lang.specs.Canonical.{line_for, question_for}
use Rattle.pc_lang.specs.Quantiles.{IsQuantile, quantile_question_for}
use Rattle.pc_lang.proofs.CanonicalTokens.{line_fits, lines_fit, quantile_fits, question_fits}

module _ (numbers : (value : ℤ) (scale : ℕ) → IsSmall value → is_number (scaled_text value scale) ≡ true) where
  pub line_spelled : (schema : Schema) (c : Constraint) → IsWellFormed schema → IsServable schema c → c.most ≤ frequency_limit → IsNameFor c.when c.name → are_spelled (line_tokens (line_for schema c)) ≡ true
  unfolding are_spelled
  line_spelled = line_fits is_spelled (λ which. refl) (λ word. refl) (λ name is. is) (λ value scale small few. numbers value scale small)

  -- the lines of constraints
  pub lines_spelled : (schema : Schema) (constraints : List Constraint) → IsWellFormed schema → AreConstraints schema constraints → All (λ (c : Constraint). are_spelled (line_tokens (line_for schema c)) ≡ true) constraints
  unfolding are_spelled
  lines_spelled = lines_fit is_spelled (λ which. refl) (λ word. refl) (λ name is. is) (λ value scale small few. numbers value scale small)

  pub question_spelled : (schema : Schema) (q : Query) → IsWellFormed schema → IsQuery schema q → are_spelled (question_tokens (question_for schema q)) ≡ true
  unfolding are_spelled
  question_spelled = question_fits is_spelled (λ which. refl) (λ word. refl) (λ name is. is) (λ value scale small few. numbers value scale small)

  pub quantile_spelled : (schema : Schema) (asked : Quantile) → IsWellFormed schema → IsQuantile schema asked → are_spelled (quantile_tokens (quantile_question_for schema asked)) ≡ true
  unfolding are_spelled
  quantile_spelled = quantile_fits is_spelled (λ which. refl) (λ word. refl) (λ name is. is) (λ value scale small few. numbers value scale small)
