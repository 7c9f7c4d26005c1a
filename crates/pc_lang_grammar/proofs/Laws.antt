-- The readers are exact against the grammar.
use Rattle.std.proofs.Common.{◌≡◌, ◌≢◌, List, [], ◌∷◌, Ok, Err, sym, ◌∙◌}
use Rattle.pc_model.specs.declared.fault.Reason.{Reason}
use Rattle.pc_model.specs.declared.fault.Reason.TheVariants as reasons
use Rattle.pc_lang_tokens.specs.declared.token.Word.TheVariants as words
use Rattle.pc_lang_tokens.specs.declared.token.Token.{Token}
use Rattle.pc_lang_tokens.specs.declared.token.Token.TheVariants as tokens
use Rattle.pc_lang_grammar.specs.declared.syntax.Line.{Line}
use Rattle.pc_lang_grammar.specs.declared.syntax.Question.{Question}
use Rattle.pc_lang_grammar.specs.declared.syntax.QuantileQuestion.{QuantileQuestion}
use Rattle.pc_lang_grammar.specs.Grammar.{line_tokens, quantile_tokens, question_tokens}
use Rattle.pc_lang_grammar.specs.Parsing.{Found, line_of, quantile_of, question_of, rule_of}
use Rattle.pc_lang_grammar.proofs.Complete.{line_again, quantile_again, question_again}
use Rattle.pc_lang_grammar.proofs.Sound.{Spells, line_spelled, quantile_spelled, question_spelled}

ok_spells : {A : Type 0} (spelled : A → List Token) (list : List Token) (found : Found A) (x : A) → Spells spelled list found → found ≡ Ok x → spelled x ≡ list
ok_spells spelled list found x spells e = rw e at spells

err_spells : {A : Type 0} (spelled : A → List Token) (list : List Token) (found : Found A) (reason : Reason) → Spells spelled list found → found ≡ Err reason → reason ≡ reasons.Unexpected
err_spells spelled list found reason spells e = rw e at spells

not_both : {A : Type 0} (x : A) (reason : Reason) → Ok x ≡ Err reason → ⊥
not_both x reason e = cc

refused_list : {A : Type 0} (spelled : A → List Token) (read : List Token → Found A) (list : List Token) (reason : Reason) (x : A) → read (spelled x) ≡ Ok x → read list ≡ Err reason → spelled x ≢ list
refused_list spelled read list reason x again refused e = not_both x reason (sym again ∙ (rw e refused))

pub lines_spelled : (list : List Token) (line : Line) → line_of list ≡ Ok line → line_tokens line ≡ list
lines_spelled list line e = ok_spells line_tokens list (line_of list) line (line_spelled list) e

pub lines_read : (line : Line) → line_of (line_tokens line) ≡ Ok line
lines_read line = line_again line

pub lines_refused : (list : List Token) (reason : Reason) → line_of list ≡ Err reason → (reason ≡ reasons.Unexpected) × ((line : Line) → line_tokens line ≢ list)
lines_refused list reason e =
    (err_spells line_tokens list (line_of list) reason (line_spelled list) e, λ line. refused_list line_tokens line_of list reason line (line_again line) e)

pub questions_spelled : (list : List Token) (question : Question) → question_of list ≡ Ok question → question_tokens question ≡ list
questions_spelled list question e = ok_spells question_tokens list (question_of list) question (question_spelled list) e

pub questions_read : (question : Question) → question_of (question_tokens question) ≡ Ok question
questions_read question = question_again question

pub questions_refused : (list : List Token) (reason : Reason) → question_of list ≡ Err reason → (reason ≡ reasons.Unexpected) × ((question : Question) → question_tokens question ≢ list)
questions_refused list reason e =
    (err_spells question_tokens list (question_of list) reason (question_spelled list) e, λ question. refused_list question_tokens question_of list reason question (question_again question) e)

pub quantiles_spelled : (list : List Token) (question : QuantileQuestion) → quantile_of list ≡ Ok question → quantile_tokens question ≡ list
quantiles_spelled list question e = ok_spells quantile_tokens list (quantile_of list) question (quantile_spelled list) e

pub quantiles_read : (question : QuantileQuestion) → quantile_of (quantile_tokens question) ≡ Ok question
quantiles_read question = quantile_again question

pub quantiles_refused : (list : List Token) (reason : Reason) → quantile_of list ≡ Err reason → (reason ≡ reasons.Unexpected) × ((question : QuantileQuestion) → quantile_tokens question ≢ list)
quantiles_refused list reason e =
    (err_spells quantile_tokens list (quantile_of list) reason (quantile_spelled list) e, λ question. refused_list quantile_tokens quantile_of list reason question (quantile_again question) e)

-- readers refuse for one reason alone
pub only_line : (list : List Token) (reason : Reason) → line_of list ≡ Err reason → reason ≡ reasons.Unexpected
only_line list reason e = err_spells line_tokens list (line_of list) reason (line_spelled list) e

pub only_question : (list : List Token) (reason : Reason) → question_of list ≡ Err reason → reason ≡ reasons.Unexpected
only_question list reason e = err_spells question_tokens list (question_of list) reason (question_spelled list) e

pub only_quantile : (list : List Token) (reason : Reason) → quantile_of list ≡ Err reason → reason ≡ reasons.Unexpected
only_quantile list reason e = err_spells quantile_tokens list (quantile_of list) reason (quantile_spelled list) e

pub only_rule : (list : List Token) (reason : Reason) → rule_of list ≡ Err reason → reason ≡ reasons.Unexpected
unfolding rule_of
only_rule (tokens.Name name ∷ []) reason e = cc
only_rule (tokens.Reserved words.Outside ∷ []) reason e = cc
only_rule other reason e = cc

pub ruleset only_unexpected = (only_line, only_question, only_quantile, only_rule)

pub ruleset line_laws = (lines_spelled, lines_read, lines_refused)

pub ruleset question_laws = (questions_spelled, questions_read, questions_refused)

pub ruleset quantile_laws = (quantiles_spelled, quantiles_read, quantiles_refused)
