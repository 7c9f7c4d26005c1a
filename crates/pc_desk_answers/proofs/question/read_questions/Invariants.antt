use Rattle.std.proofs.Common.{◌≡◌, ℕ, map, All, Bor, List}
use Rattle.pc_desk_answers.specs.Questions.{IsQuestion, questions_of}
use Rattle.pc_desk_answers.proofs.Asked.{read_from}
use Rattle.pc_desk_answers.proofs.question.read_questions.Given as goal

abbrev pub invariant-loop-place : goal.invariant-loop-place
invariant-loop-place l = record {
  read : read_from l.schema (map (λ (text : Bor (List ℕ)). text.now) l.texts) l.place l.questions ≡ questions_of l.schema (map (λ (text : Bor (List ℕ)). text.now) l.texts);
  asked : All (IsQuestion l.schema) l.questions;
}
