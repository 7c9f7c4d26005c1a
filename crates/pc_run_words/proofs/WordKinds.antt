-- What a word looks like, to `clap` and to the definitions.
use Rattle.std.proofs.Common.{◌≡◌, ◌∙◌, ◌==◌, ℕ, Bool, true, false, List, [], ◌∷◌, ◌++◌, Some, None, codes, refl, sym, ap, subst, arith, length, take, drop, get_or, inl, inr, ◌⊎◌, eqb-true}
use Rattle.std.specs.Str.{bytes_eq, chars, encode_utf8_all, IsUtf8}
use Rattle.std.specs.Prelude.{if◌then◌else◌, slice_get}
use Rattle.std.specs.List.{before_first, after_first, position_or_len}
use Rattle.std.proofs.lemmas.Slice.Eq.{bytes_eq-Decides}
use Rattle.std.proofs.lemmas.Str.{chars-append, encodes-chars, IsUtf8-from_ascii}
use Rattle.std.proofs.lemmas.Str.Ascii.{IsAscii-cons, IsAscii-nil}
use Rattle.std.proofs.lemmas.Bool.{cases_lt}
use Rattle.std.proofs.lemmas.List.{append-nil, take-append-drop, take_all}
use Rattle.std.proofs.lemmas.List.Sums.{split_at_first, passes_at_first}
use Rattle.clap.specs.Lexer.{long_of, short_of}
use Rattle.clap.specs.Walk.{Text}
use Rattle.pc_run_words.specs.Words.{is_option}

-- no option, and no end of options
pub record IsPlainWord (word : Text) : Type 0 where
  pub dashes : bytes_eq word (codes "--") ≡ false
  pub other : is_option word ≡ false
  pub long : long_of word ≡ None
  pub short : short_of word ≡ None

pub dash_or_not : (byte : ℕ) → (byte ≡ 45) ⊎ ((byte == 45) ≡ false)
dash_or_not byte = by (byte == 45) refl
  where
    by : (test : Bool) → (byte == 45) ≡ test → (byte ≡ 45) ⊎ ((byte == 45) ≡ false)
    by true e = inl (eqb-true byte 45 e)
    by false e = inr e

lone_word : (byte : ℕ) → IsPlainWord (byte ∷ [])
lone_word byte = by (byte == 45) refl
  where
    by : (test : Bool) → (byte == 45) ≡ test → IsPlainWord (byte ∷ [])
    by true e = record { dashes = rw e refl; other = refl; long = rw e refl; short = rw e refl }
    by false e = record { dashes = rw e refl; other = refl; long = rw e refl; short = rw e refl }

undashed_word : (byte next : ℕ) (rest : Text) → (byte == 45) ≡ false → IsPlainWord (byte ∷ next ∷ rest)
undashed_word byte next rest e = record { dashes = rw e refl; other = e; long = rw e refl; short = rw e refl }

-- a word is plain, `--`, or a long or a short option
module _ (P : Text → Type 0) (plain : (word : Text) → IsPlainWord word → P word) (dashes : P (codes "--"))
    (long : (first : ℕ) (rest : Text) → P (45 ∷ 45 ∷ first ∷ rest)) (short : (first : ℕ) (rest : Text) → (first == 45) ≡ false → P (45 ∷ first ∷ rest)) where
  long_or_dashes : (rest : Text) → P (45 ∷ 45 ∷ rest)
  long_or_dashes [] = dashes
  long_or_dashes (first ∷ rest) = long first rest

  dashed : (next : ℕ) (rest : Text) → P (45 ∷ next ∷ rest)
  dashed next rest = elim (dash_or_not next) [
    | inl e ↦ subst (λ byte. P (45 ∷ byte ∷ rest)) (sym e) (long_or_dashes rest)
    | inr e ↦ short next rest e
  ]

  pub by_word : (word : Text) → P word
  by_word [] = plain [] (record { dashes = refl; other = refl; long = refl; short = refl })
  by_word (byte ∷ []) = plain (byte ∷ []) (lone_word byte)
  by_word (byte ∷ next ∷ rest) = elim (dash_or_not byte) [
    | inl e ↦ subst (λ first. P (first ∷ next ∷ rest)) (sym e) (dashed next rest)
    | inr e ↦ plain (byte ∷ next ∷ rest) (undashed_word byte next rest e)
  ]

-- a short option is none of the words that begin with two hyphens
module _ (first : ℕ) (rest : Text) (e : (first == 45) ≡ false) where
  pub not_dashes : bytes_eq (45 ∷ first ∷ rest) (codes "--") ≡ false
  not_dashes = rw e refl

  pub not_nodes : bytes_eq (45 ∷ first ∷ rest) (codes "--nodes") ≡ false
  not_nodes = rw e refl

  pub not_front : bytes_eq (take 8 (45 ∷ first ∷ rest)) (codes "--nodes=") ≡ false
  not_front = rw e refl

  pub not_long : long_of (45 ∷ first ∷ rest) ≡ None
  not_long = rw e refl

  pub flags_are : short_of (45 ∷ first ∷ rest) ≡ Some (first ∷ rest)
  flags_are = ap (λ test. if test then None else Some (first ∷ rest)) e

-- ---- long options

-- neither `--nodes` nor `--nodes=VALUE`
pub record IsOtherOption (text : Text) : Type 0 where
  pub name : bytes_eq (codes "nodes") (before_first (λ byte. byte == 61) text) ≡ false
  pub word : bytes_eq (45 ∷ 45 ∷ text) (codes "--nodes") ≡ false
  pub front : bytes_eq (take 8 (45 ∷ 45 ∷ text)) (codes "--nodes=") ≡ false

cut : (text : Text) → (before_first (λ byte. byte == 61) text ≡ text)
    ⊎ ((rest : Text) × (text ≡ before_first (λ byte. byte == 61) text ++ 61 ∷ rest))
cut text = elim (cases_lt (position_or_len (λ byte. byte == 61) text) (length text)) [
  | inl within ↦
      let equal = eqb-true (get_or text (position_or_len (λ byte. byte == 61) text) 0) 61 (passes_at_first (λ byte. byte == 61) text 0 within) in
      inr (
        after_first (λ byte. byte == 61) text,
        split_at_first (λ byte. byte == 61) text 0 within
            ∙ ap (λ byte. before_first (λ b. b == 61) text ++ byte ∷ after_first (λ b. b == 61) text) equal,
      )
  | inr past ↦ inl (take_all (position_or_len (λ byte. byte == 61) text) text past)
]

module _ (P : Text → Type 0) (alone : P (codes "nodes")) (with_value : (found : Text) → P (codes "nodes=" ++ found))
    (other : (text : Text) → IsOtherOption text → P text) where
  named : (text : Text) → before_first (λ byte. byte == 61) text ≡ codes "nodes" → P text
  named text e = elim (cut text) [
    | inl whole ↦ subst P (sym e ∙ whole) alone
    | inr found ↦ subst P (sym (found.1 ∙ ap (λ name. name ++ 61 ∷ found.0) e)) (with_value found.0)
  ]

  unnamed : (text : Text) → bytes_eq (codes "nodes") (before_first (λ byte. byte == 61) text) ≡ false → P text
  unnamed text e = by_test (bytes_eq (45 ∷ 45 ∷ text) (codes "--nodes")) (bytes_eq (take 8 (45 ∷ 45 ∷ text)) (codes "--nodes=")) refl refl
    where
      by_test : (a b : Bool) → bytes_eq (45 ∷ 45 ∷ text) (codes "--nodes") ≡ a → bytes_eq (take 8 (45 ∷ 45 ∷ text)) (codes "--nodes=") ≡ b → P text
      by_test true b same front =
          let whole : 45 ∷ 45 ∷ text ≡ codes "--nodes" = (bytes_eq-Decides (45 ∷ 45 ∷ text) (codes "--nodes")).0 same in
          let text_is : text ≡ codes "nodes" = ap {A = Text} {B = Text} (drop 2) whole in
          subst P (sym text_is) alone
      by_test false true same front =
          let head : take 8 (45 ∷ 45 ∷ text) ≡ codes "--nodes=" = (bytes_eq-Decides (take 8 (45 ∷ 45 ∷ text)) (codes "--nodes=")).0 front in
          let whole : 45 ∷ 45 ∷ text ≡ codes "--nodes=" ++ drop 8 (45 ∷ 45 ∷ text) =
          sym (take-append-drop 8 (45 ∷ 45 ∷ text)) ∙ ap (λ (start : Text). start ++ drop 8 (45 ∷ 45 ∷ text)) head in
          let text_is : text ≡ codes "nodes=" ++ drop 8 (45 ∷ 45 ∷ text) = ap {A = Text} {B = Text} (drop 2) whole in
          subst P (sym text_is) (with_value (drop 8 (45 ∷ 45 ∷ text)))
      by_test false false same front = other text (record { name = e; word = same; front = front })

  pub by_option : (text : Text) → P text
  by_option text = by_test (bytes_eq (codes "nodes") (before_first (λ byte. byte == 61) text)) refl
    where
      by_test : (test : Bool) → bytes_eq (codes "nodes") (before_first (λ byte. byte == 61) text) ≡ test → P text
      by_test true e = named text (sym ((bytes_eq-Decides (codes "nodes") (before_first (λ byte. byte == 61) text)).0 e))
      by_test false e = unnamed text e

-- ---- short options

-- a text that goes on after its first hyphen has a character there
pub character_after : (first : ℕ) (rest : Text) → IsUtf8 (45 ∷ first ∷ rest) → (c : ℕ) × (slice_get (chars (first ∷ rest)) 0 ≡ Some c)
character_after first rest text = by_list (chars (first ∷ rest)) refl
  where
    by_list : (cs : List ℕ) → chars (first ∷ rest) ≡ cs → (c : ℕ) × (slice_get (chars (first ∷ rest)) 0 ≡ Some c)
    by_list (c ∷ cs) e = (c, ap (λ list. slice_get list 0) e)
    by_list [] e =
        let lone : IsUtf8 (45 ∷ []) = IsUtf8-from_ascii (45 ∷ []) (IsAscii-cons 45 [] (omega arith) IsAscii-nil) in
        let whole : chars (45 ∷ first ∷ rest) ≡ chars (45 ∷ []) = chars-append (45 ∷ []) (first ∷ rest) lone ∙ ap (λ list. chars (45 ∷ []) ++ list) e ∙ append-nil (chars (45 ∷ [])) in
        let same : 45 ∷ [] ≡ 45 ∷ first ∷ rest = sym (encodes-chars (45 ∷ []) lone) ∙ ap encode_utf8_all (sym whole) ∙ encodes-chars (45 ∷ first ∷ rest) text in
        let none : [] ≡ first ∷ rest = ap {A = Text} {B = Text} (drop 1) same in
        cc
