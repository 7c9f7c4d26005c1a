-- Names are read back from what is written for them.
use Rattle.std.proofs.Common.{◌≡◌, ◌≢◌, inl, inr, ℕ, ◌+◌, ◌<◌, ◌==◌, Bool, true, false, List, [], ◌∷◌, ◌++◌, length, get_or, AllPairs, Option, Some, None, refl, sym, ap, ◌∙◌, append_assoc}
use Rattle.std.specs.List.{list_all}
use Rattle.std.proofs.lemmas.Bool.{cases_order, false≢true, or_parts}
use Rattle.std.proofs.lemmas.List.{append_cancel_left}
use Rattle.pc_lang_tokens.specs.Lexing.{goes_on_name, quoted_from}
use Rattle.pc_lang_tokens.specs.Spelling.{begins_as_word, doubled, is_bare, is_word_byte, name_text, starts_word}
use Rattle.pc_lang_tokens.proofs.Doubled.{quoted_again}
use Rattle.pc_lang_tokens.proofs.Fronts.{text_bare, text_quoted}
use Rattle.pc_lang_tokens.proofs.Quotes.{quote_last, quote_stops}
use Rattle.pc_lang_tokens.proofs.ReadingBack.{word_parts}
use Rattle.pc_lang_tokens.proofs.Words.{bare_is_word}
use Rattle.pc_report.proofs.Stops.{fronts_equal, same_head, same_tail, starts}

-- ---- names

word_stops : (r : List ℕ) → goes_on_name r ≡ false → starts is_word_byte r ≡ false
word_stops [] stop = refl
word_stops (byte ∷ rest) stop = (or_parts (is_word_byte byte) (byte == 34) stop).0

quote_stop : (len : ℕ) (name r : List ℕ) → goes_on_name r ≡ false → quoted_from true len name r ≡ Some (name, len)
quote_stop len name [] stop = quote_last len name
quote_stop len name (byte ∷ rest) stop = quote_stops len name byte rest (or_parts (is_word_byte byte) (byte == 34) stop).1

bare_bytes : (name : List ℕ) → is_bare name ≡ true → (begins_as_word name ≡ true) × (list_all is_word_byte name ≡ true)
bare_bytes name bare = word_parts name (bare_is_word name bare)

-- a word does not begin with a quote
no_quote : (name r rest : List ℕ) → begins_as_word name ≡ true → name ++ r ≡ 34 ∷ rest → ⊥
no_quote [] r rest begins e = false≢true begins
no_quote (byte ∷ name) r rest begins e =
    let quote : byte ≡ 34 = same_head byte 34 (name ++ r) rest e in
    false≢true (ap starts_word (sym quote) ∙ begins)

-- what is read up to the last quote
read_from : Option (List ℕ × ℕ) → List ℕ
read_from None = []
read_from (Some found) = found.0

read_again : (name r : List ℕ) → goes_on_name r ≡ false → read_from (quoted_from false 1 [] (doubled name ++ 34 ∷ r)) ≡ name
unfolding read_from
read_again name r stop =
    ap read_from (quoted_again name [] r 1 ∙ quote_stop (1 + length (doubled name) + 1) name r stop)

quoted_opens : (name r : List ℕ) → (34 ∷ (doubled name ++ 34 ∷ [])) ++ r ≡ 34 ∷ (doubled name ++ 34 ∷ r)
quoted_opens name r = ap (λ (bytes : List ℕ). 34 ∷ bytes) (append_assoc (doubled name) (34 ∷ []) r)

quoted_back : (a b r s : List ℕ) → goes_on_name r ≡ false → goes_on_name s ≡ false → doubled a ++ 34 ∷ r ≡ doubled b ++ 34 ∷ s → (a ≡ b) × (r ≡ s)
quoted_back a b r s stop end e =
    let same : a ≡ b = sym (read_again a r stop) ∙ ap (λ (bytes : List ℕ). read_from (quoted_from false 1 [] bytes)) e ∙ read_again b s end in
    let rest : 34 ∷ r ≡ 34 ∷ s = append_cancel_left (doubled b) (34 ∷ r) (34 ∷ s) (ap (λ (name : List ℕ). doubled name ++ 34 ∷ r) (sym same) ∙ e) in
    (same, same_tail 34 34 r s rest)

pub name_back : (a b r s : List ℕ) → goes_on_name r ≡ false → goes_on_name s ≡ false → name_text a ++ r ≡ name_text b ++ s → (a ≡ b) × (r ≡ s)
name_back a b r s stop end e = by_tests (is_bare a) (is_bare b) refl refl
  where
    by_tests : (test other : Bool) → is_bare a ≡ test → is_bare b ≡ other → (a ≡ b) × (r ≡ s)
    by_tests true true p q =
        fronts_equal is_word_byte a b r s (bare_bytes a p).1 (bare_bytes b q).1 (word_stops r stop) (word_stops s end) (rw (text_bare a p, text_bare b q) at e)
    by_tests true false p q = absurd (no_quote a r _ (bare_bytes a p).0 (rw (text_bare a p, text_quoted b q) at e))
    by_tests false true p q = absurd (no_quote b s _ (bare_bytes b q).0 (sym (rw (text_quoted a p, text_bare b q) at e)))
    by_tests false false p q =
        let quoted = rw (text_quoted a p, text_quoted b q) at e in
        quoted_back a b r s stop end (same_tail 34 34 _ _ (sym (quoted_opens a r) ∙ quoted ∙ quoted_opens b s))

-- ---- places

-- of items of which no two are the same, equal ones stand at one place
pub same_place : {X : Type 0} (xs : List X) (d : X) (i j : ℕ) → AllPairs (λ (a b : X). a ≢ b) xs → i < length xs → j < length xs → get_or xs i d ≡ get_or xs j d → i ≡ j
same_place xs d i j different inside within e =
    elim (cases_order i j) [
      | inl same ↦ same
      | inr apart ↦ elim apart [
        | inl before ↦ absurd (different i j d before within e)
        | inr after ↦ absurd (different j i d after inside (sym e))
      ]
    ]
