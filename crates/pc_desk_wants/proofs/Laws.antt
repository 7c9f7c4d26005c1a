-- What is told is what may stand, and where it is told to stand.
use Rattle.std.proofs.Common.{◌≡◌, ℕ, zero, suc, ◌+◌, ◌<◌, Bool, true, false, cond, inl, inr, ◌⊎◌, List, [], ◌∷◌, ◌++◌, length, take, drop, get_or, refl, sym, subst, lt-ltb, arith}
use Rattle.std.specs.Prelude.{◌↔◌, IsTrue, slice_index_or}
use Rattle.std.specs.List.{AllZip, Contains, filter}
use Rattle.std.proofs.lemmas.List.Elements.{Contains-append_right, filter_passes}
use Rattle.std.proofs.lemmas.List.Sums.{sum_by-append}
use Rattle.std.proofs.lemmas.List.{append-nil}
use Rattle.pc_lang_tokens.specs.declared.token.Symbol.TheVariants as symbols
use Rattle.pc_lang_tokens.specs.declared.token.Word.TheVariants as words
use Rattle.pc_lang_tokens.specs.declared.token.Token.{Token}
use Rattle.pc_lang_tokens.specs.declared.tokens.Tokens.{Tokens}
use Rattle.pc_lang_tokens.specs.Places.{AreTokens, BeginsAt}
use Rattle.pc_lang_tokens.specs.Texts.{texts_after, token_text, tokens_text}
use Rattle.pc_lang_grammar.specs.declared.want.Want.{Want}
use Rattle.pc_lang_grammar.specs.declared.want.Kind.{Kind}
use Rattle.pc_lang_grammar.specs.declared.want.Kind.TheVariants as kinds
use Rattle.pc_lang_grammar.specs.Halts.{halt_of}
use Rattle.pc_desk_wants.specs.Kinds.{all_kinds, may_come, told_kinds}
use Rattle.pc_desk_wants.specs.Shown.{begins_char, chars_in}
use Rattle.pc_desk_wants.specs.Told.{at_text, halt_text, words_text}
use Rattle.pc_desk_wants.specs.Wanted.{wanted_text}

-- ---- kinds

at_first_or_later : {X : Type 0} (first : X) (xs : List X) (x : X) (k : ℕ) → k < length (first ∷ xs) → slice_index_or (first ∷ xs) k x ≡ x → (first ≡ x) ⊎ Contains xs x
at_first_or_later first xs x zero inside is = inl is
at_first_or_later first xs x (suc k) inside is = inr (k, omega (arith, inside), is)

later : {X : Type 0} (first : X) (xs : List X) (x : X) → Contains xs x → Contains (first ∷ xs) x
later first xs x has = Contains-append_right (first ∷ []) xs x has

module _ (X : Type 0) (passes : X → Bool) where
  first_kept : (x : X) (xs : List X) → passes x ≡ true → Contains (filter passes (x ∷ xs)) x
  first_kept x xs test = subst (λ b. Contains (cond b (x ∷ filter passes xs) (filter passes xs)) x) (sym test) (0, omega arith, refl)

  later_kept : (first : X) (xs : List X) (x : X) → Contains (filter passes xs) x → Contains (filter passes (first ∷ xs)) x
  later_kept first xs x has = by_test (passes first)
    where
      by_test : (test : Bool) → Contains (cond test (first ∷ filter passes xs) (filter passes xs)) x
      by_test true = later first (filter passes xs) x has
      by_test false = has

  kept : (xs : List X) (x : X) → Contains xs x → passes x ≡ true → Contains (filter passes xs) x
  kept [] x has test = absurd (omega (arith, has.1))
  kept (first ∷ xs) x has test =
      elim (at_first_or_later first xs x has.0 has.1 has.2) [
        | inl is ↦ subst (Contains (filter passes (first ∷ xs))) is (first_kept first xs (rw is test))
        | inr after ↦ later_kept first xs x (kept xs x after test)
      ]

  passing : (xs : List X) (x : X) → Contains (filter passes xs) x → passes x ≡ true
  passing xs x has = subst (λ y. passes y ≡ true) has.2 (filter_passes passes xs has.0 x has.1)

among_all : (kind : Kind) → Contains all_kinds kind
unfolding all_kinds
among_all kinds.Name = (0, omega arith, refl)
among_all kinds.Number = (1, omega arith, refl)
among_all (kinds.Reserved words.True) = (2, omega arith, refl)
among_all (kinds.Reserved words.Outside) = (3, omega arith, refl)
among_all (kinds.Reserved words.Count) = (4, omega arith, refl)
among_all (kinds.Reserved words.Sum) = (5, omega arith, refl)
among_all (kinds.Reserved words.Min) = (6, omega arith, refl)
among_all (kinds.Reserved words.Max) = (7, omega arith, refl)
among_all (kinds.Reserved words.Avg) = (8, omega arith, refl)
among_all (kinds.Reserved words.Quantile) = (9, omega arith, refl)
among_all (kinds.Symbol symbols.OpenGroup) = (10, omega arith, refl)
among_all (kinds.Symbol symbols.CloseGroup) = (11, omega arith, refl)
among_all (kinds.Symbol symbols.Star) = (12, omega arith, refl)
among_all (kinds.Symbol symbols.Colon) = (13, omega arith, refl)
among_all (kinds.Symbol symbols.Equal) = (14, omega arith, refl)
among_all (kinds.Symbol symbols.AtLeast) = (15, omega arith, refl)
among_all (kinds.Symbol symbols.AtMost) = (16, omega arith, refl)
among_all (kinds.Symbol symbols.Above) = (17, omega arith, refl)
among_all (kinds.Symbol symbols.Below) = (18, omega arith, refl)
among_all (kinds.Reserved words.In) = (19, omega arith, refl)
among_all (kinds.Symbol symbols.OpenSet) = (20, omega arith, refl)
among_all (kinds.Symbol symbols.Dots) = (21, omega arith, refl)
among_all (kinds.Reserved words.And) = (22, omega arith, refl)
among_all (kinds.Reserved words.Or) = (23, omega arith, refl)
among_all (kinds.Symbol symbols.Arrow) = (24, omega arith, refl)
among_all (kinds.Symbol symbols.Comma) = (25, omega arith, refl)
among_all (kinds.Symbol symbols.CloseSet) = (26, omega arith, refl)
among_all (kinds.Reserved words.Where) = (27, omega arith, refl)
among_all (kinds.Reserved words.Group) = (28, omega arith, refl)
among_all (kinds.Reserved words.By) = (29, omega arith, refl)

pub kind_told : (want : Want) (kind : Kind) → Contains (told_kinds want) kind ↔ IsTrue (may_come want kind)
unfolding told_kinds
kind_told want kind = (passing Kind (may_come want) all_kinds kind, kept Kind (may_come want) all_kinds kind (among_all kind))

pub ruleset kind_laws = (kind_told)

-- ---- columns

chars_append : (front text : List ℕ) → chars_in (front ++ text) ≡ chars_in front + chars_in text
chars_append front text = sum_by-append (λ byte. cond (begins_char byte) 1 0) front text

zipped : {X Y : Type 0} (R : X → Y → Type 0) (xs : List X) (ys : List Y) (k : ℕ) (x : X) (y : Y) → AllZip R xs ys → k < length xs → x ≡ get_or xs k x → R x (get_or ys k y)
zipped R [] ys k x y all inside is = absurd (omega (arith, inside))
zipped R (first ∷ xs) [] k x y all inside is = absurd all
zipped R (first ∷ xs) (other ∷ ys) zero x y all inside is = rw is all.0
zipped R (first ∷ xs) (other ∷ ys) (suc k) x y all inside is = zipped R xs ys k x y all.1 (omega (arith, inside)) is

one_text : (list : List Token) (k : ℕ) (token : Token) → k < length list → token ≡ get_or list k token → tokens_text (take 1 (drop k list)) ≡ token_text token
unfolding tokens_text texts_after
one_text [] k token inside is = absurd (omega (arith, inside))
one_text (first ∷ rest) zero token inside is = rw is (append-nil (token_text first))
one_text (first ∷ rest) (suc k) token inside is = one_text rest k token (omega (arith, inside)) is

module _ (front text : List ℕ) (start : Want) (tokens : Tokens) (token : Token) where
  pub column_told : AreTokens text tokens → (halt_of start tokens.list).place < length tokens.list → token ≡ get_or tokens.list (halt_of start tokens.list).place token →
      (place : ℕ) × BeginsAt text token place × (halt_text front text tokens (halt_of start tokens.list) ≡ at_text (chars_in (front ++ take place text) + 1) (token_text token) (words_text (wanted_text (halt_of start tokens.list).want)))
  unfolding halt_text
  column_told are inside is =
      let halt = halt_of start tokens.list in
      let place = get_or tokens.places halt.place 0 in (
        place,
        zipped (BeginsAt text) tokens.list tokens.places halt.place token 0 are.placed inside is,
        rw (lt-ltb halt.place (length tokens.list) inside, one_text tokens.list halt.place token inside is, chars_append front (take place text)) refl,
      )

pub ruleset column_laws = (column_told)
