use Rattle.std.proofs.Common.{◌≡◌, List, [], ◌∷◌, ◌++◌, map, Bor, ℕ, rules, sym, subst, ◌∙◌}
use Rattle.std.proofs.lemmas.List.Elements.{All-nil, All-push}
use Rattle.std.proofs.lemmas.Result.{err_from_is_err_and}
use Rattle.pc_desk_answers.specs.Questions.{IsQuestion}
use Rattle.pc_model.specs.Refusals.{RefusesAs}
use Rattle.pc_desk_answers.proofs.Asked.{none_read, next_word, refused_word, all_words}
use Rattle.pc_desk_answers.proofs.question.read_questions.Goals as goal

pub loop-place-init : goal.loop-place-init
loop-place-init c = rw c.new-questions.ensures (record { read = none_read c.args.schema.now (map (λ (text : Bor (List ℕ)). text.now) c.args.texts.now); asked = All-nil (IsQuestion c.args.schema.now) })

pub returns-in_err-question-clause-gives : goal.returns-in_err-question-clause-gives
returns-in_err-question-clause-gives c =
    let p = err_from_is_err_and c.from_residual.result c.from_residual.ensures.1 in
    let here = refused_word c.args.schema.now c.args.texts.now c.loop-place.place c.loop-place.questions (record { ref_ptr = (0, 0); now = [] }) c.in_err-question.field-0.0 c.loop-place-test.true c.in_err-question.ensures.gives in
    rw (p.1, p.2) (subst (RefusesAs c.in_err-question.field-0.0) c.loop-place.invariant.read here)

pub loop-place-preserved : goal.loop-place-preserved
loop-place-preserved c =
    let pushed : c.push.new.self ≡ c.loop-place.questions ++ c.in_ok-question.question ∷ [] = search rules in
    rw pushed (record {
      read = next_word c.args.schema.now c.args.texts.now c.loop-place.place c.loop-place.questions (record { ref_ptr = (0, 0); now = [] }) c.in_ok-question.question c.loop-place-test.true c.in_ok-question.ensures.gives ∙ c.loop-place.invariant.read;
      asked = All-push (IsQuestion c.args.schema.now) c.loop-place.questions c.in_ok-question.question c.loop-place.invariant.asked c.in_ok-question.ensures.asked;
    })

pub returns-clause-gives : goal.returns-clause-gives
returns-clause-gives c =
    sym c.loop-place.invariant.read ∙ all_words c.args.schema.now c.args.texts.now c.loop-place.place c.loop-place.questions c.loop-place-test.false

pub returns-clause-asked : goal.returns-clause-asked
returns-clause-asked c = c.loop-place.invariant.asked
