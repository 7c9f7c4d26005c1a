-- A question and its answer are read back from their text.
use Rattle.std.proofs.Common.{◌≡◌, ℕ, true, List, [], ◌∷◌, ◌++◌, codes, Option, Some, None, refl, sym, ap, subst, ◌∙◌}
use Rattle.std.specs.List.{list_all}
use Rattle.std.proofs.lemmas.List.{append-nil}
use Rattle.pc_model.specs.declared.schema.Schema.{Schema}
use Rattle.pc_model.specs.Right as plain
use Rattle.pc_model.specs.WellFormed.{IsWellFormed}
use Rattle.pc_proof.specs.declared.answer.Mark.{Mark}
use Rattle.pc_proof.specs.declared.answer.Mark.TheVariants as marks
use Rattle.pc_proof.specs.Unbroken.{plain_answer, plain_end, plain_ends, plain_lack, plain_mark, plain_relation}
use Rattle.pc_lang_tokens.proofs.ScaledTexts.{numbers_are_spelled}
use Rattle.pc_lang_tokens.proofs.TextBytes.{tokens_text_printed}
use Rattle.pc_lang.specs.declared.quantile.Quantile.{Quantile}
use Rattle.pc_lang.specs.Quantiles.{IsQuantile, quantile_from, quantile_text}
use Rattle.pc_lang.proofs.CanonicalSpelled.{quantile_spelled}
use Rattle.pc_lang.proofs.QuantilesAgain.{quantile_reads_back}
use Rattle.pc_report.specs.Report.{answer_text}
use Rattle.pc_report.specs.Shown.{IsShownAnswer}
use Rattle.pc_report.proofs.AnswersBack.{answer_back}
use Rattle.pc_report.proofs.BlocksBack.{is_printed, line_back}
use Rattle.pc_quantile.specs.declared.answer.QuantileRelation.{QuantileRelation}
use Rattle.pc_quantile.specs.declared.answer.QuantileRelation.TheVariants as relations
use Rattle.pc_quantile.specs.declared.answer.QuantileLack.{QuantileLack}
use Rattle.pc_quantile.specs.declared.answer.QuantileLack.TheVariants as lacks
use Rattle.pc_quantile.specs.declared.answer.QuantileEnd.{QuantileEnd}
use Rattle.pc_quantile.specs.declared.answer.QuantileAnswer.{QuantileAnswer}
use Rattle.pc_quantile.specs.Measured.{least_of}
use Rattle.pc_quantile.specs.Shown.{shown, shown_end, shown_ends, shown_lack, shown_relation}
use Rattle.pc_quantile.specs.Texts.{block_text}

-- ---- the question

text_printed : (schema : Schema) (asked : Quantile) → IsWellFormed schema → IsQuantile schema asked → list_all is_printed (quantile_text schema asked) ≡ true
unfolding quantile_text
text_printed schema asked formed well = tokens_text_printed _ (quantile_spelled (λ value scale small. numbers_are_spelled value scale) schema asked formed well)

same_question : (schema : Schema) (asked other : Quantile) → IsWellFormed schema → IsQuantile schema asked → IsQuantile schema other → quantile_text schema asked ≡ quantile_text schema other → asked ≡ other
same_question schema asked other formed well its e =
    let read = sym (quantile_reads_back schema asked formed well) ∙ ap (quantile_from schema) e ∙ quantile_reads_back schema other formed its in
    cc read

-- ---- the answer that plain parts say

abbrev back_relation : plain.Relation → QuantileRelation
back_relation (plain.possible runs) = relations.Possible runs
back_relation plain.impossible = relations.Impossible
back_relation plain.undecided = relations.Undecided

abbrev back_lack : plain.Lack → QuantileLack
back_lack plain.silent = lacks.Silent
back_lack plain.never = lacks.Never
back_lack (plain.sometimes without with') = lacks.Sometimes without with'
back_lack plain.always = lacks.Always
back_lack plain.unsettled = lacks.Undecided

abbrev back_mark : plain.Mark → Mark
back_mark (plain.exact runs) = marks.Exact runs
back_mark plain.outer = marks.Outer

abbrev back_end : plain.End → QuantileEnd
back_end end = record { value = end.value.num; mark = back_mark end.mark }

abbrev back_ends : Option (plain.End × plain.End) → Option (QuantileEnd × QuantileEnd)
back_ends None = None
back_ends (Some ends) = Some (back_end ends.0, back_end ends.1)

abbrev back : plain.Answer → QuantileAnswer
back answer = record { relation = back_relation answer.relation; lack = back_lack answer.lack; ends = back_ends answer.ends }

relation_again : (relation : QuantileRelation) → back_relation (plain_relation (shown_relation relation)) ≡ relation
relation_again (relations.Possible runs) = refl
relation_again relations.Impossible = refl
relation_again relations.Undecided = refl

lack_again : (lack : QuantileLack) → back_lack (plain_lack (shown_lack lack)) ≡ lack
lack_again lacks.Silent = refl
lack_again lacks.Never = refl
lack_again (lacks.Sometimes without with') = refl
lack_again lacks.Always = refl
lack_again lacks.Undecided = refl

mark_again : (mark : Mark) → back_mark (plain_mark mark) ≡ mark
mark_again (marks.Exact runs) = refl
mark_again marks.Outer = refl

end_again : (end : QuantileEnd) → back_end (plain_end (shown_end end)) ≡ end
end_again end = λ i. record { value = end.value; mark = mark_again end.mark i }

ends_again : (ends : Option (QuantileEnd × QuantileEnd)) → back_ends (plain_ends (shown_ends ends)) ≡ ends
ends_again None = refl
ends_again (Some ends) = λ i. Some (end_again ends.0 i, end_again ends.1 i)

again : (answer : QuantileAnswer) → back (plain_answer (shown answer)) ≡ answer
again answer = λ i. record { relation = relation_again answer.relation i; lack = lack_again answer.lack i; ends = ends_again answer.ends i }

same_answer : (one two : QuantileAnswer) → plain_answer (shown one) ≡ plain_answer (shown two) → one ≡ two
same_answer one two e = sym (again one) ∙ ap back e ∙ again two

-- ---- both

block_opens : (schema : Schema) (canonical : List ℕ) (asked : Quantile) (answer : QuantileAnswer) → block_text schema canonical asked answer ≡ codes "query " ++ (canonical ++ 10 ∷ answer_text schema (least_of asked) (plain_answer (shown answer)))
unfolding block_text
block_opens schema canonical asked answer =
    ap (λ (rest : List ℕ). codes "query " ++ (canonical ++ 10 ∷ rest)) (append-nil (answer_text schema (least_of asked) (plain_answer (shown answer))))

pub texts_tell_their_quantiles : (schema : Schema) (asked other : Quantile) (one two : QuantileAnswer) → IsWellFormed schema → IsQuantile schema asked → IsQuantile schema other
    → IsShownAnswer schema (least_of asked) (plain_answer (shown one)) → IsShownAnswer schema (least_of other) (plain_answer (shown two))
    → block_text schema (quantile_text schema asked) asked one ≡ block_text schema (quantile_text schema other) other two → (asked ≡ other) × (one ≡ two)
texts_tell_their_quantiles schema asked other one two formed well its are others e =
    let parts = line_back (quantile_text schema asked) (quantile_text schema other) (answer_text schema (least_of asked) (plain_answer (shown one))) (answer_text schema (least_of other) (plain_answer (shown two)))
    (text_printed schema asked formed well) (text_printed schema other formed its)
    (sym (block_opens schema (quantile_text schema asked) asked one) ∙ e ∙ block_opens schema (quantile_text schema other) other two) in
    let same = same_question schema asked other formed well its parts.0 in
    let rest = parts.1 ∙ ap (λ (question : Quantile). answer_text schema (least_of question) (plain_answer (shown two))) (sym same) in
    let told = answer_back schema (least_of asked) (plain_answer (shown one)) (plain_answer (shown two)) [] [] formed are
    (subst (λ (question : Quantile). IsShownAnswer schema (least_of question) (plain_answer (shown two))) (sym same) others)
    (record { run = refl; none = refl }) (record { run = refl; none = refl })
    (append-nil (answer_text schema (least_of asked) (plain_answer (shown one))) ∙ rest ∙ sym (append-nil (answer_text schema (least_of asked) (plain_answer (shown two))))) in
    (same, same_answer one two told.0)
