-- Queries read one after another.
use Rattle.std.proofs.Common.{◌≡◌, ℕ, ◌+◌, ◌<◌, ◌≤◌, List, [], ◌∷◌, ◌++◌, length, map, get_or, drop, Result, Ok, Err, Bor, refl, sym, ap}
use Rattle.std.proofs.lemmas.List.{drop_all, drop_more, append-nil, append_assoc, length-map, get_or-map}
use Rattle.pc_model.specs.declared.schema.Schema.{Schema}
use Rattle.pc_model.specs.declared.query.Query.{Query}
use Rattle.pc_model.specs.declared.fault.Fault.{Fault}
use Rattle.pc_model.specs.declared.fault.Refusal.{Refusal}
use Rattle.pc_model.specs.declared.fault.Refusal.TheVariants as refusals
use Rattle.pc_model.specs.Refusals.{◌>>=◌, RefusesAs}
use Rattle.pc_lang.specs.Files.{query_at}
use Rattle.pc_files.specs.Outcome.{queries_from, queries_of}

-- queries before those that a reading gives
abbrev pub after_queries : List Query → Result (List Query) Fault → Result (List Query) Fault
after_queries before (Ok queries) = Ok (before ++ queries)
after_queries before (Err fault) = Err fault

abbrev read_all : List Query → Result (List Query) Fault
read_all queries = Ok queries

none_before : (read : Result (List Query) Fault) → after_queries [] read ≡ read
none_before (Ok queries) = refl
none_before (Err fault) = refl

one_before : (before : List Query) (query : Query) (read : Result (List Query) Fault) → after_queries before (read >>= λ queries. Ok (query ∷ queries)) ≡ after_queries (before ++ query ∷ []) read
one_before before query (Ok queries) = ap read_all (sym (append_assoc before (query ∷ []) queries))
one_before before query (Err fault) = refl

module _ (schema : Schema) (texts : List (List ℕ)) where
  -- what comes of the queries from a place on, after those before it
  abbrev pub read_from : ℕ → List Query → Result (List Query) Fault
  read_from place before = after_queries before (queries_from schema (place + 1) (drop place texts))

  pub none_read : read_from 0 [] ≡ queries_of schema texts
  none_read = none_before (queries_of schema texts)

  read_here : (place : ℕ) (text : List ℕ) → place < length texts → queries_from schema (place + 1) (drop place texts) ≡ (query_at schema (place + 1) (get_or texts place text) >>= λ query. (queries_from schema (place + 1 + 1) (drop (place + 1) texts) >>= λ queries. Ok (query ∷ queries)))
  unfolding queries_from
  read_here place text inside = rw (drop_more texts place text inside) refl

  pub next_read : (place : ℕ) (before : List Query) (text : List ℕ) (query : Query) → place < length texts → query_at schema (place + 1) (get_or texts place text) ≡ Ok query → read_from (place + 1) (before ++ query ∷ []) ≡ read_from place before
  next_read place before text query inside is =
      rw (read_here place text inside, is) (sym (one_before before query (queries_from schema (place + 1 + 1) (drop (place + 1) texts))))

  refused_here : (place : ℕ) (before : List Query) (text : List ℕ) (fault : Fault) → place < length texts → query_at schema (place + 1) (get_or texts place text) ≡ Err fault → read_from place before ≡ Err fault
  refused_here place before text fault inside is = rw (read_here place text inside, is) refl

  pub refused : (place : ℕ) (before : List Query) (text : List ℕ) (refusal : Refusal) → place < length texts → RefusesAs refusal (query_at schema (place + 1) (get_or texts place text)) → RefusesAs refusal (read_from place before)
  refused place before text refusals.Memory inside refuses = tt
  refused place before text (refusals.Fault fault) inside refuses = refused_here place before text fault inside refuses

  pub all_read : (place : ℕ) (before : List Query) → length texts ≤ place → read_from place before ≡ Ok before
  unfolding queries_from
  all_read place before past = rw (drop_all place texts past, append-nil before) refl

-- the same of texts as the code has them
module _ (schema : Schema) (texts : List (Bor (List ℕ))) where
  abbrev pub words : List (List ℕ)
  words = map (λ (text : Bor (List ℕ)). text.now) texts

  inside_too : (place : ℕ) → place < length texts → place < length words
  inside_too place inside = rw (length-map texts (λ (text : Bor (List ℕ)). text.now)) inside

  at_too : (place : ℕ) (d : Bor (List ℕ)) → place < length texts → get_or words place d.now ≡ (get_or texts place d).now
  at_too place d inside = get_or-map (λ (text : Bor (List ℕ)). text.now) texts place d d.now inside

  pub next_word : (place : ℕ) (before : List Query) (d : Bor (List ℕ)) (query : Query) → place < length texts → query_at schema (place + 1) (get_or texts place d).now ≡ Ok query → read_from schema words (place + 1) (before ++ query ∷ []) ≡ read_from schema words place before
  next_word place before d query inside is = next_read schema words place before d.now query (inside_too place inside) (rw (at_too place d inside) is)

  pub refused_word : (place : ℕ) (before : List Query) (d : Bor (List ℕ)) (refusal : Refusal) → place < length texts → RefusesAs refusal (query_at schema (place + 1) (get_or texts place d).now) → RefusesAs refusal (read_from schema words place before)
  refused_word place before d refusal inside refuses = refused schema words place before d.now refusal (inside_too place inside) (rw (at_too place d inside) refuses)

  pub all_words : (place : ℕ) (before : List Query) → length texts ≤ place → read_from schema words place before ≡ Ok before
  all_words place before past = all_read schema words place before (rw (length-map texts (λ (text : Bor (List ℕ)). text.now)) past)
