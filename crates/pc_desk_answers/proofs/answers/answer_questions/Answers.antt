use Rattle.pc_desk_answers.proofs.answers.answer_questions.Goals as goal

pub returns : goal.returns
returns c = record { shown = rw c.as_slice.ensures at c.answer_all.ensures.shown }
