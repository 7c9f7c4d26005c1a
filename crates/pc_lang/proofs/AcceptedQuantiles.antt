-- A question stands for a quantile that is well-formed.
use Rattle.std.proofs.Common.{◌≡◌, ℕ, ◌≤◌, ◌==◌, ◌||◌, nat_lt, false, ℤ, unsigned_abs, List, Result, Ok, Err, IfOk, ltb-false, subst, arith}
use Rattle.std.specs.Char.{is_ascii_digit}
use Rattle.std.specs.List.{list_all}
use Rattle.std.proofs.lemmas.Bool.Decides.{nat_tests}
use Rattle.pc_model.specs.declared.fault.Reason.{Reason}
use Rattle.pc_model.specs.declared.fault.Reason.TheVariants as reasons
use Rattle.pc_model.specs.declared.fault.ReadStop.{ReadStop}
use Rattle.pc_model.specs.declared.schema.Schema.{Schema}
use Rattle.pc_model.specs.Numbers.{number_of}
use Rattle.pc_model.specs.Refusals.{◌>>=◌, Answers}
use Rattle.pc_model.specs.WellFormed.{IsWellFormed}
use Rattle.pc_lang_grammar.specs.declared.syntax.QuantileQuestion.{QuantileQuestion}
use Rattle.pc_lang.specs.declared.quantile.Quantile.{Quantile}
use Rattle.pc_lang.specs.Meaning.{chosen_of, numeric_place}
use Rattle.pc_lang.specs.Quantiles.{IsQuantile, asked_of, at_most_one, in_limit, quantile_of_question, share_limit, share_of, shares_of}
use Rattle.pc_lang.proofs.AcceptedQuestions.{is_chosen, is_column}
use Rattle.pc_lang.proofs.Bound.{bound, granted, passed}

share_is_in_limit : (text : List ℕ) (share : ℕ) → share_of text ≡ Ok share → (1 ≤ share) × (share ≤ share_limit)
unfolding share_of
share_is_in_limit text share e =
    let digits = granted (list_all is_ascii_digit text) reasons.BadNumber (number_of 0 text >>= λ n. in_limit (unsigned_abs n)) share e in
    let number = bound (λ (n : ℤ). in_limit (unsigned_abs n)) (number_of 0 text) share digits.1 in
    let within = passed ((unsigned_abs number.value == 0) || nat_lt share_limit (unsigned_abs number.value)) reasons.PastLimit (Ok (unsigned_abs number.value)) share number.gives in
    let same : unsigned_abs number.value ≡ share = (let is = within.1 in cc) in
    let test : ((share == 0) || nat_lt share_limit share) ≡ false = rw same at within.0 in
    (grind (arith, nat_tests, test), grind (arith, nat_tests, test))

-- what the two numbers of a share are
abbrev IsShare : ℕ × ℕ → Type 0
IsShare share = (1 ≤ share.0) × (share.0 ≤ share.1) × (share.1 ≤ share_limit)

is_share : (first second : List ℕ) (share : ℕ × ℕ) → shares_of first second ≡ Ok share → IsShare share
unfolding shares_of
is_share first second share e =
    let p = bound (λ (p : ℕ). share_of second >>= λ q. at_most_one p q) (share_of first) share e in
    let q = bound (λ (q : ℕ). at_most_one p.value q) (share_of second) share p.gives in
    let ordered = passed (nat_lt q.value p.value) reasons.LeastOverMost (Ok (p.value, q.value)) share q.gives in
    let same : (p.value, q.value) ≡ share = (let is = ordered.1 in cc) in
    subst IsShare same ((share_is_in_limit first p.value p.is).0, ltb-false q.value p.value ordered.0, (share_is_in_limit second q.value q.is).1)

abbrev after_column : Schema → QuantileQuestion → ℕ × ℕ → ℕ → Result Quantile Reason
after_column schema question share column = chosen_of schema question.chosen >>= asked_of share column

abbrev after_share : Schema → QuantileQuestion → ℕ × ℕ → Result Quantile Reason
after_share schema question share = numeric_place schema question.column >>= after_column schema question share

is_quantile : (schema : Schema) (question : QuantileQuestion) (asked : Quantile) → IsWellFormed schema → quantile_of_question schema question ≡ Ok asked → IsQuantile schema asked
unfolding quantile_of_question
is_quantile schema question asked formed e =
    let share = bound (after_share schema question) (shares_of question.p question.q) asked e in
    let column = bound (after_column schema question share.value) (numeric_place schema question.column) asked share.gives in
    let chosen = bound (asked_of share.value column.value) (chosen_of schema question.chosen) asked column.gives in
    let made : Quantile = record { p = share.value.0; q = share.value.1; column = column.value; chosen = chosen.value } in
    let same : made ≡ asked = (let gives = chosen.gives in cc) in
    let is = is_share question.p question.q share.value share.is in
    subst (IsQuantile schema) same (record {
      some = is.0;
      most = is.1;
      few = is.2;
      numeric = is_column schema question.column column.value column.is;
      chosen = is_chosen schema question.chosen chosen.value formed chosen.is;
    })

pub question_is_quantile : (schema : Schema) (question : QuantileQuestion) (result : Result Quantile ReadStop) → IsWellFormed schema → Answers result (quantile_of_question schema question) → IfOk result (IsQuantile schema)
question_is_quantile schema question (Ok asked) formed e = is_quantile schema question asked formed e
question_is_quantile schema question (Err stop) formed e = tt
