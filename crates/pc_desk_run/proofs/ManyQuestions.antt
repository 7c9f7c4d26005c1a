-- As many questions are read as there are texts.
use Rattle.std.proofs.Common.{◌≡◌, ℕ, suc, ◌+◌, List, [], ◌∷◌, length, Result, Ok, Err, refl, ap}
use Rattle.std.specs.Prelude.{IfOk}
use Rattle.pc_model.specs.declared.fault.Fault.{Fault}
use Rattle.pc_model.specs.declared.schema.Schema.{Schema}
use Rattle.pc_model.specs.Refusals.{◌>>=◌}
use Rattle.pc_desk_answers.specs.declared.question.Question.{Question}
use Rattle.pc_desk_answers.specs.Questions.{question_at, questions_from}

one_more : (question : Question) (count : ℕ) (rest : Result (List Question) Fault) → IfOk rest (λ (questions : List Question). length questions ≡ count) →
    IfOk (rest >>= λ questions. Ok (question ∷ questions)) (λ (questions : List Question). length questions ≡ suc count)
one_more question count (Ok questions) many = ap suc many
one_more question count (Err fault) many = tt

after_first : (first : Result Question Fault) (count : ℕ) (rest : Result (List Question) Fault) → IfOk rest (λ (questions : List Question). length questions ≡ count) →
    IfOk (first >>= λ question. (rest >>= λ questions. Ok (question ∷ questions))) (λ (questions : List Question). length questions ≡ suc count)
after_first (Ok question) count rest many = one_more question count rest many
after_first (Err fault) count rest many = tt

pub as_many : (schema : Schema) (place : ℕ) (texts : List (List ℕ)) → IfOk (questions_from schema place texts) (λ (questions : List Question). length questions ≡ length texts)
unfolding questions_from
as_many schema place [] = refl
as_many schema place (text ∷ texts) = after_first (question_at schema place text) (length texts) (questions_from schema (place + 1) texts) (as_many schema (place + 1) texts)
