-- The canonical text of a quantile is read back as that quantile.
use Rattle.std.proofs.Common.{◌≡◌, ℕ, ◌≤◌, ◌==◌, ◌||◌, false, nat_lt, pos, Ok, le-ltb, refl, arith}
use Rattle.std.proofs.lemmas.Bool.Decides.{nat_tests}
use Rattle.pc_model.specs.declared.schema.Schema.{Schema}
use Rattle.pc_model.specs.WellFormed.{IsSmall, IsWellFormed}
use Rattle.pc_model.proofs.NumberTexts.{number_again}
use Rattle.pc_lang_tokens.proofs.ScaledTexts.{numbers_are_spelled}
use Rattle.pc_lang_tokens.proofs.TokensBack.{tokens_read_back}
use Rattle.pc_lang_grammar.specs.Grammar.{quantile_tokens}
use Rattle.pc_lang_grammar.proofs.Complete.{quantile_again}
use Rattle.pc_lang.specs.declared.quantile.Quantile.{Quantile}
use Rattle.pc_lang.specs.Canonical.{count_text}
use Rattle.pc_lang.specs.Quantiles.{IsQuantile, quantile_from, quantile_of_question, quantile_question_for, quantile_question_from, quantile_text, share_limit, share_of, shares_of}
use Rattle.pc_lang.proofs.AreasAgain.{chosen_again}
use Rattle.pc_lang.proofs.CanonicalSpelled.{quantile_spelled}
use Rattle.pc_lang.proofs.ConstraintsAgain.{count_digits}
use Rattle.pc_lang.proofs.QueriesAgain.{numeric_again}

-- the text of one of the two numbers
share_again : (n : ℕ) → 1 ≤ n → n ≤ share_limit → share_of (count_text n) ≡ Ok n
unfolding share_of
share_again n some few =
    let small : IsSmall (pos n) = omega (arith, few) in
    let within : ((n == 0) || nat_lt share_limit n) ≡ false = grind (arith, nat_tests, some, few) in
    rw (count_digits n (omega (arith, few)), number_again 0 (pos n) small, within) refl

shares_again : (p q : ℕ) → 1 ≤ p → p ≤ q → q ≤ share_limit → shares_of (count_text p) (count_text q) ≡ Ok (p, q)
unfolding shares_of
shares_again p q some most few =
    rw (share_again p some (omega (arith, most, few)), share_again q (omega (arith, some, most)) few, le-ltb q p most) refl

question_again : (schema : Schema) (asked : Quantile) → IsWellFormed schema → IsQuantile schema asked → quantile_of_question schema (quantile_question_for schema asked) ≡ Ok asked
unfolding quantile_of_question quantile_question_for
question_again schema asked formed accepted =
    rw (
      shares_again asked.p asked.q accepted.some accepted.most accepted.few,
      numeric_again schema asked.column formed accepted.numeric,
      chosen_again schema asked.chosen formed accepted.chosen,
    ) refl

pub quantile_reads_back : (schema : Schema) (asked : Quantile) → IsWellFormed schema → IsQuantile schema asked → quantile_from schema (quantile_text schema asked) ≡ Ok asked
unfolding quantile_from quantile_question_from quantile_text
quantile_reads_back schema asked formed accepted =
    let spelled = quantile_spelled (λ value scale small. numbers_are_spelled value scale) schema asked formed accepted in
    rw (tokens_read_back (quantile_tokens (quantile_question_for schema asked)) spelled, quantile_again (quantile_question_for schema asked)) (question_again schema asked formed accepted)
