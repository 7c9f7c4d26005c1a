-- Questions read one after another.
use Rattle.std.proofs.Common.{◌≡◌, ℕ, ◌+◌, ◌<◌, ◌≤◌, List, [], ◌∷◌, ◌++◌, length, map, get_or, drop, Result, Ok, Err, Bor, refl, sym, ap}
use Rattle.std.proofs.lemmas.List.{drop_all, drop_more, append-nil, append_assoc, length-map, get_or-map}
use Rattle.pc_model.specs.declared.schema.Schema.{Schema}
use Rattle.pc_desk_answers.specs.declared.question.Question.{Question}
use Rattle.pc_model.specs.declared.fault.Fault.{Fault}
use Rattle.pc_model.specs.declared.fault.Refusal.{Refusal}
use Rattle.pc_model.specs.declared.fault.Refusal.TheVariants as refusals
use Rattle.pc_model.specs.Refusals.{◌>>=◌, RefusesAs}
use Rattle.pc_desk_answers.specs.Questions.{question_at, questions_from, questions_of}

-- questions before those that a reading gives
abbrev pub after_questions : List Question → Result (List Question) Fault → Result (List Question) Fault
after_questions before (Ok questions) = Ok (before ++ questions)
after_questions before (Err fault) = Err fault

abbrev read_all : List Question → Result (List Question) Fault
read_all questions = Ok questions

none_before : (read : Result (List Question) Fault) → after_questions [] read ≡ read
none_before (Ok questions) = refl
none_before (Err fault) = refl

one_before : (before : List Question) (question : Question) (read : Result (List Question) Fault) → after_questions before (read >>= λ questions. Ok (question ∷ questions)) ≡ after_questions (before ++ question ∷ []) read
one_before before question (Ok questions) = ap read_all (sym (append_assoc before (question ∷ []) questions))
one_before before question (Err fault) = refl

module _ (schema : Schema) (texts : List (List ℕ)) where
  -- what comes of the questions from a place on, after those before it
  abbrev pub read_from : ℕ → List Question → Result (List Question) Fault
  read_from place before = after_questions before (questions_from schema (place + 1) (drop place texts))

  pub none_read : read_from 0 [] ≡ questions_of schema texts
  none_read = none_before (questions_of schema texts)

  read_here : (place : ℕ) (text : List ℕ) → place < length texts → questions_from schema (place + 1) (drop place texts) ≡ (question_at schema (place + 1) (get_or texts place text) >>= λ question. (questions_from schema (place + 1 + 1) (drop (place + 1) texts) >>= λ questions. Ok (question ∷ questions)))
  unfolding questions_from
  read_here place text inside = rw (drop_more texts place text inside) refl

  pub next_read : (place : ℕ) (before : List Question) (text : List ℕ) (question : Question) → place < length texts → question_at schema (place + 1) (get_or texts place text) ≡ Ok question → read_from (place + 1) (before ++ question ∷ []) ≡ read_from place before
  next_read place before text question inside is =
      rw (read_here place text inside, is) (sym (one_before before question (questions_from schema (place + 1 + 1) (drop (place + 1) texts))))

  refused_here : (place : ℕ) (before : List Question) (text : List ℕ) (fault : Fault) → place < length texts → question_at schema (place + 1) (get_or texts place text) ≡ Err fault → read_from place before ≡ Err fault
  refused_here place before text fault inside is = rw (read_here place text inside, is) refl

  pub refused : (place : ℕ) (before : List Question) (text : List ℕ) (refusal : Refusal) → place < length texts → RefusesAs refusal (question_at schema (place + 1) (get_or texts place text)) → RefusesAs refusal (read_from place before)
  refused place before text refusals.Memory inside refuses = tt
  refused place before text (refusals.Fault fault) inside refuses = refused_here place before text fault inside refuses

  pub all_read : (place : ℕ) (before : List Question) → length texts ≤ place → read_from place before ≡ Ok before
  unfolding questions_from
  all_read place before past = rw (drop_all place texts past, append-nil before) refl

-- the same of texts as the code has them
module _ (schema : Schema) (texts : List (Bor (List ℕ))) where
  abbrev pub words : List (List ℕ)
  words = map (λ (text : Bor (List ℕ)). text.now) texts

  inside_too : (place : ℕ) → place < length texts → place < length words
  inside_too place inside = rw (length-map texts (λ (text : Bor (List ℕ)). text.now)) inside

  at_too : (place : ℕ) (d : Bor (List ℕ)) → place < length texts → get_or words place d.now ≡ (get_or texts place d).now
  at_too place d inside = get_or-map (λ (text : Bor (List ℕ)). text.now) texts place d d.now inside

  pub next_word : (place : ℕ) (before : List Question) (d : Bor (List ℕ)) (question : Question) → place < length texts → question_at schema (place + 1) (get_or texts place d).now ≡ Ok question → read_from schema words (place + 1) (before ++ question ∷ []) ≡ read_from schema words place before
  next_word place before d question inside is = next_read schema words place before d.now question (inside_too place inside) (rw (at_too place d inside) is)

  pub refused_word : (place : ℕ) (before : List Question) (d : Bor (List ℕ)) (refusal : Refusal) → place < length texts → RefusesAs refusal (question_at schema (place + 1) (get_or texts place d).now) → RefusesAs refusal (read_from schema words place before)
  refused_word place before d refusal inside refuses = refused schema words place before d.now refusal (inside_too place inside) (rw (at_too place d inside) refuses)

  pub all_words : (place : ℕ) (before : List Question) → length texts ≤ place → read_from schema words place before ≡ Ok before
  all_words place before past = all_read schema words place before (rw (length-map texts (λ (text : Bor (List ℕ)). text.now)) past)
