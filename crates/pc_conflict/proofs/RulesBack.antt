-- The names of constraints are read back from a line of them.
use Rattle.std.proofs.Common.{◌≡◌, inl, inr, ℕ, ◌<◌, Bool, true, false, List, [], ◌∷◌, ◌++◌, length, codes, get_or, All, refl, sym, ap, ap₂, ◌∙◌, arith}
use Rattle.std.specs.List.{list_all}
use Rattle.std.proofs.lemmas.Bool.{and_from, cases_order, false≢true, true≢false}
use Rattle.std.proofs.lemmas.Bool.Decides.{nat_tests}
use Rattle.std.proofs.lemmas.List.{append-nil, append_cancel_left}
use Rattle.std.proofs.lemmas.List.Elements.{All-head, All-tail}
use Rattle.std.proofs.lemmas.List.Folds.{list_all-append}
use Rattle.std.proofs.lemmas.Option.{slice_get-get_or}
use Rattle.pc_model.specs.declared.constraint.When.{When}
use Rattle.pc_model.specs.declared.constraint.When.TheVariants.{Boxes, Outside}
use Rattle.pc_model.specs.declared.constraint.Constraint.{Constraint}
use Rattle.pc_model.specs.declared.schema.Schema.{Schema}
use Rattle.pc_model.specs.Accepted.{AreConstraints, IsNameFor}
use Rattle.pc_model.specs.Texts.{IsName}
use Rattle.pc_model.proofs.Names.{is_name_of}
use Rattle.pc_lang_tokens.specs.declared.token.Token.TheVariants as tokens
use Rattle.pc_lang_tokens.specs.Lexing.{goes_on_name}
use Rattle.pc_lang_tokens.specs.Spelling.{begins_as_word, is_bare, is_reserved, is_word, is_word_byte, name_text, reserved}
use Rattle.pc_lang_tokens.specs.Texts.{are_spelled, token_text, tokens_text, texts_after}
use Rattle.pc_lang_tokens.proofs.Fronts.{text_bare, text_quoted}
use Rattle.pc_lang_tokens.proofs.ReadingBack.{word_parts}
use Rattle.pc_lang_tokens.proofs.TextBytes.{tokens_text_printed}
use Rattle.pc_lang_tokens.proofs.Words.{bare_is_word}
use Rattle.pc_report.proofs.BlocksBack.{is_printed}
use Rattle.pc_report.proofs.NamesBack.{name_back}
use Rattle.pc_report.proofs.Stops.{fronts_equal, starts, unlike_at, unlike_starts}
use Rattle.pc_conflict.specs.Texts.{next_rules_text, rule_at, rule_name, rule_text, rules_text}

-- ---- one name

-- no byte of a name stands at the front
record EndsName (r : List ℕ) : Type 0 where
  name : goes_on_name r ≡ false
  word : starts is_word_byte r ≡ false

outside_not_bare : is_bare (codes "outside") ≡ false
unfolding is_bare is_word is_reserved reserved
outside_not_bare = refl

-- a name in quotes, or bare and no reserved word
never_outside : (name r s : List ℕ) → EndsName r → EndsName s → name_text name ++ r ≡ codes "outside" ++ s → ⊥
never_outside name r s stop end e = by_test (is_bare name) refl
  where
    by_test : (test : Bool) → is_bare name ≡ test → ⊥
    by_test true p =
        let same = (fronts_equal is_word_byte name (codes "outside") r s (word_parts name (bare_is_word name p)).1 refl stop.word end.word (rw (text_bare name p) at e)).0 in
        true≢false (sym p ∙ ap is_bare same ∙ outside_not_bare)
    by_test false p = unlike_at 0 _ _ (rw (text_quoted name p) at e) refl

word_back : (when other : When) (a b r s : List ℕ) → IsNameFor when a → IsNameFor other b → EndsName r → EndsName s → rule_name when a ++ r ≡ rule_name other b ++ s → (a ≡ b) × (r ≡ s)
word_back (Boxes area) (Boxes more) a b r s named called stop end e = name_back a b r s stop.name end.name e
word_back (Boxes area) Outside a b r s named called stop end e = absurd (never_outside a r s stop end e)
word_back Outside (Boxes more) a b r s named called stop end e = absurd (never_outside b s r end stop (sym e))
word_back Outside Outside a b r s named called stop end e = (named ∙ sym called, append_cancel_left (codes "outside") r s e)

name_spelled : (name : List ℕ) → IsName name → are_spelled (tokens.Name name ∷ []) ≡ true
unfolding are_spelled
name_spelled name named = rw (is_name_of name named) refl

name_alone : (name : List ℕ) → tokens_text (tokens.Name name ∷ []) ≡ name_text name
unfolding tokens_text token_text texts_after
name_alone name = append-nil (name_text name)

word_printed : (when : When) (name : List ℕ) → IsNameFor when name → list_all is_printed (rule_name when name) ≡ true
word_printed (Boxes area) name named = ap (list_all is_printed) (sym (name_alone name)) ∙ tokens_text_printed (tokens.Name name ∷ []) (name_spelled name named)
word_printed Outside name named = refl

starts_printed : (name r : List ℕ) → begins_as_word name ≡ true → starts is_printed (name ++ r) ≡ true
starts_printed [] r begins = absurd (false≢true begins)
starts_printed (byte ∷ name) r begins = grind (arith, nat_tests, begins)

word_starts : (when : When) (name r : List ℕ) → starts is_printed (rule_name when name ++ r) ≡ true
word_starts (Boxes area) name r = by_test (is_bare name) refl
  where
    by_test : (test : Bool) → is_bare name ≡ test → starts is_printed (name_text name ++ r) ≡ true
    by_test true p = rw (text_bare name p) (starts_printed name r (word_parts name (bare_is_word name p)).0)
    by_test false p = rw (text_quoted name p) refl
word_starts Outside name r = refl

-- ---- lines of names

some_one : {X : Type 0} (xs : List X) (i : ℕ) → i < length xs → X
some_one [] i inside = absurd (omega (arith, inside))
some_one (x ∷ xs) i inside = x

module _ (schema : Schema) (constraints : List Constraint) (are : AreConstraints schema constraints) where
  abbrev IsThere : ℕ → Type 0
  IsThere place = place < length constraints

  there : (d : Constraint) (place : ℕ) (r : List ℕ) → IsThere place → rule_at constraints place ++ r ≡ rule_name (get_or constraints place d).when (get_or constraints place d).name ++ r
  there d place r inside = ap (λ o. rule_text o ++ r) (slice_get-get_or constraints place d inside)

  one_place : (d : Constraint) (i j : ℕ) → IsThere i → IsThere j → (get_or constraints i d).name ≡ (get_or constraints j d).name → i ≡ j
  one_place d i j inside within same =
      elim (cases_order i j) [
        | inl equal ↦ equal
        | inr apart ↦ elim apart [
          | inl before ↦ absurd (are.own_names i j d before within same)
          | inr after ↦ absurd (are.own_names j i d after inside (sym same))
        ]
      ]

  rule_back_from : (d : Constraint) (i j : ℕ) (r s : List ℕ) → IsThere i → IsThere j → EndsName r → EndsName s → rule_at constraints i ++ r ≡ rule_at constraints j ++ s → (i ≡ j) × (r ≡ s)
  rule_back_from d i j r s inside within stop end e =
      let a = get_or constraints i d in
      let b = get_or constraints j d in
      let both = word_back a.when b.when a.name b.name r s (are.named i d inside) (are.named j d within) stop end (sym (there d i r inside) ∙ e ∙ there d j s within) in
      (one_place d i j inside within both.0, both.1)

  rule_back : (i j : ℕ) (r s : List ℕ) → IsThere i → IsThere j → EndsName r → EndsName s → rule_at constraints i ++ r ≡ rule_at constraints j ++ s → (i ≡ j) × (r ≡ s)
  rule_back i j r s inside = rule_back_from (some_one constraints i inside) i j r s inside

  rule_printed_from : (d : Constraint) (place : ℕ) → IsThere place → list_all is_printed (rule_at constraints place) ≡ true
  rule_printed_from d place inside =
      let c = get_or constraints place d in
      ap (λ o. list_all is_printed (rule_text o)) (slice_get-get_or constraints place d inside) ∙ word_printed c.when c.name (are.named place d inside)

  pub rule_printed : (place : ℕ) → IsThere place → list_all is_printed (rule_at constraints place) ≡ true
  rule_printed place inside = rule_printed_from (some_one constraints place inside) place inside

  rule_starts_from : (d : Constraint) (place : ℕ) (r : List ℕ) → IsThere place → starts is_printed (rule_at constraints place ++ r) ≡ true
  rule_starts_from d place r inside = ap (starts is_printed) (there d place r inside) ∙ word_starts (get_or constraints place d).when (get_or constraints place d).name r

  rule_starts : (place : ℕ) (r : List ℕ) → IsThere place → starts is_printed (rule_at constraints place ++ r) ≡ true
  rule_starts place r inside = rule_starts_from (some_one constraints place inside) place r inside

  next_stops : (places : List ℕ) → EndsName (next_rules_text constraints places)
  unfolding next_rules_text
  next_stops [] = record { name = refl; word = refl }
  next_stops (place ∷ places) = record { name = refl; word = refl }

  none_next : next_rules_text constraints [] ≡ []
  unfolding next_rules_text
  none_next = refl

  next_opens : (place : ℕ) (places : List ℕ) → next_rules_text constraints (place ∷ places) ≡ codes ", " ++ (rule_at constraints place ++ next_rules_text constraints places)
  unfolding next_rules_text
  next_opens place places = refl

  next_back : (xs ys : List ℕ) → All IsThere xs → All IsThere ys → next_rules_text constraints xs ≡ next_rules_text constraints ys → xs ≡ ys
  next_back [] [] inside within e = refl
  next_back [] (y ∷ ys) inside within e = absurd (unlike_at 0 _ _ (sym none_next ∙ e ∙ next_opens y ys) refl)
  next_back (x ∷ xs) [] inside within e = absurd (unlike_at 0 _ _ (sym none_next ∙ sym e ∙ next_opens x xs) refl)
  next_back (x ∷ xs) (y ∷ ys) inside within e =
      let opened = append_cancel_left (codes ", ") _ _ (sym (next_opens x xs) ∙ e ∙ next_opens y ys) in
      let first = rule_back x y (next_rules_text constraints xs) (next_rules_text constraints ys) (All-head IsThere x xs inside) (All-head IsThere y ys within) (next_stops xs) (next_stops ys) opened in
      ap₂ (λ (place : ℕ) (places : List ℕ). place ∷ places) first.0 (next_back xs ys (All-tail IsThere x xs inside) (All-tail IsThere y ys within) first.1)

  -- a line of names tells the places
  pub rules_back : (xs ys : List ℕ) → All IsThere xs → All IsThere ys → rules_text constraints xs ≡ rules_text constraints ys → xs ≡ ys
  rules_back [] [] inside within e = refl
  rules_back [] (y ∷ ys) inside within e = absurd (unlike_starts is_printed [] (rules_text constraints (y ∷ ys)) e refl (rule_starts y (next_rules_text constraints ys) (All-head IsThere y ys within)))
  rules_back (x ∷ xs) [] inside within e = absurd (unlike_starts is_printed [] (rules_text constraints (x ∷ xs)) (sym e) refl (rule_starts x (next_rules_text constraints xs) (All-head IsThere x xs inside)))
  rules_back (x ∷ xs) (y ∷ ys) inside within e =
      let first = rule_back x y (next_rules_text constraints xs) (next_rules_text constraints ys) (All-head IsThere x xs inside) (All-head IsThere y ys within) (next_stops xs) (next_stops ys) e in
      ap₂ (λ (place : ℕ) (places : List ℕ). place ∷ places) first.0 (next_back xs ys (All-tail IsThere x xs inside) (All-tail IsThere y ys within) first.1)

  next_printed : (places : List ℕ) → All IsThere places → list_all is_printed (next_rules_text constraints places) ≡ true
  next_printed [] inside = ap (list_all is_printed) none_next
  next_printed (place ∷ places) inside =
      ap (list_all is_printed) (next_opens place places) ∙ list_all-append is_printed (rule_at constraints place) (next_rules_text constraints places)
      ∙ and_from _ _ (rule_printed place (All-head IsThere place places inside)) (next_printed places (All-tail IsThere place places inside))

  pub rules_printed : (places : List ℕ) → All IsThere places → list_all is_printed (rules_text constraints places) ≡ true
  rules_printed [] inside = refl
  rules_printed (place ∷ places) inside =
      list_all-append is_printed (rule_at constraints place) (next_rules_text constraints places)
      ∙ and_from _ _ (rule_printed place (All-head IsThere place places inside)) (next_printed places (All-tail IsThere place places inside))
