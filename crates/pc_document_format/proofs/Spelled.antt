-- Lines that are written again and compared, and lines of a few words.
use Rattle.std.proofs.Common.{◌≡◌, ◌⊎◌, ⊎_elim, inl, inr, ℕ, zero, suc, ◌<◌, ◌&&◌, Bool, true, false, List, [], ◌∷◌, length, get_or, Option, Some, None, refl, sym, ap, ◌∙◌, arith, if◌then◌else◌}
use Rattle.std.specs.List.{All, Contains}
use Rattle.std.specs.Str.{bytes_eq}
use Rattle.std.proofs.lemmas.List.Elements.{All-contains, Contains-append_right}
use Rattle.std.proofs.lemmas.Slice.Eq.{bytes_eq-Decides}
use Rattle.std.proofs.lemmas.Bool.{and_parts, and_from, false_from_ne_true}
use Rattle.pc_document_format.specs.Lines.{feeds_in}
use Rattle.pc_document_format.specs.Formats.{IsLine, IsSpelled, AreApart, if_spelled, read_spelled, found_in}

same_bytes : (a b : List ℕ) → bytes_eq a b ≡ true → a ≡ b
same_bytes a b = (bytes_eq-Decides a b).0

bytes_same : (a : List ℕ) → bytes_eq a a ≡ true
bytes_same a = (bytes_eq-Decides a a).1 refl

bytes_apart : (a b : List ℕ) → (a ≡ b → ⊥) → bytes_eq a b ≡ false
bytes_apart a b apart = false_from_ne_true (bytes_eq a b) (λ same. apart (same_bytes a b same))

some_same : {A : Type 0} (x y : A) → Some x ≡ Some y → x ≡ y
some_same x y e = cc

none_some : {A : Type 0} (x : A) → None ≡ Some x → ⊥
none_some x e = cc

if_sound : {A : Type 0} (text : A → List ℕ) (is_good : A → Bool) (line : List ℕ) (likely : Option A) (x : A) → if_spelled text is_good line likely ≡ Some x → (likely ≡ Some x) × (is_good x ≡ true) × (line ≡ text x)
if_sound text is_good line None x e = absurd (none_some x e)
if_sound {A} text is_good line (Some y) x e = by_test (is_good y && bytes_eq (text y) line) refl e
  where
    by_test : (test : Bool) → (is_good y && bytes_eq (text y) line) ≡ test → (if test then Some y else None) ≡ Some x → (Some y ≡ Some x) × (is_good x ≡ true) × (line ≡ text x)
    by_test false is f = absurd (none_some x f)
    by_test true is f =
        let same = some_same y x f in
        let parts = and_parts (is_good y) (bytes_eq (text y) line) is in
        (f, ap is_good (sym same) ∙ parts.0, sym (same_bytes (text y) line parts.1) ∙ ap text same)

-- A line that is written again and compared is a line.
pub spelled_line : {A : Type 0} {Good : A → Type 0} (text : A → List ℕ) (is_good : A → Bool) (likely : List ℕ → Option A) → IsSpelled Good text is_good likely → IsLine Good text (read_spelled text is_good likely)
spelled_line text is_good likely s = record {
  some = s.some;
  some_good = s.some_good;
  complete = λ x good. ap (if_spelled text is_good (text x)) (s.back x good) ∙ ap (λ (test : Bool). if test then Some x else None) (and_from (is_good x) (bytes_eq (text x) (text x)) (s.tested x good) (bytes_same (text x)));
  sound = λ line x e. let known = if_sound text is_good line (likely line) x e in (s.holds line x known.0 known.1, known.2);
  plain = s.plain;
}

module _ {A : Type 0} (text : A → List ℕ) where
  found_text : (xs : List A) (line : List ℕ) (x : A) → found_in text xs line ≡ Some x → Contains xs x × (line ≡ text x)
  unfolding found_in
  found_text [] line x e = absurd (none_some x e)
  found_text (y ∷ ys) line x e = by_test (bytes_eq (text y) line) refl (found_text ys) e
    where
      by_test : (test : Bool) → bytes_eq (text y) line ≡ test → ((next : List ℕ) (z : A) → found_in text ys next ≡ Some z → Contains ys z × (next ≡ text z)) → (if test then Some y else found_in text ys line) ≡ Some x → Contains (y ∷ ys) x × (line ≡ text x)
      by_test true is others f =
          let same = some_same y x f in
          ((0, omega arith, same), sym (same_bytes (text y) line is) ∙ ap text same)
      by_test false is others f =
          let known = others line x f in
          (Contains-append_right (y ∷ []) ys x known.0, known.1)

  first_or_later : (y : A) (ys : List A) (x : A) → Contains (y ∷ ys) x → (y ≡ x) ⊎ Contains ys x
  first_or_later y ys x contains = by_place contains.0 contains.1 contains.2
    where
      by_place : (k : ℕ) → k < length (y ∷ ys) → get_or (y ∷ ys) k x ≡ x → (y ≡ x) ⊎ Contains ys x
      by_place zero inside is = inl is
      by_place (suc k) inside is = inr (k, omega arith, is)

  later_apart : (y : A) (ys : List A) → AreApart text (y ∷ ys) → AreApart text ys
  later_apart y ys apart = λ i j d before inside. apart (suc i) (suc j) d (omega arith) (omega arith)

  apart_from : (y : A) (ys : List A) (x : A) → AreApart text (y ∷ ys) → Contains ys x → text y ≡ text x → ⊥
  apart_from y ys x apart contains same = apart 0 (suc contains.0) x (omega arith) (omega (arith, contains.1)) (same ∙ ap text (sym contains.2))

  found_again : (xs : List A) (x : A) → AreApart text xs → Contains xs x → found_in text xs (text x) ≡ Some x
  unfolding found_in
  found_again [] x apart contains = absurd (omega (arith, contains.1))
  found_again (y ∷ ys) x apart contains = ⊎_elim at_first (later (found_again ys x)) (first_or_later y ys x contains)
    where
      at_first : y ≡ x → (if bytes_eq (text y) (text x) then Some y else found_in text ys (text x)) ≡ Some x
      at_first same = ap (λ (test : Bool). if test then Some y else found_in text ys (text x)) (ap (λ (z : A). bytes_eq (text y) (text z)) (sym same) ∙ bytes_same (text y)) ∙ ap Some same

      later : (AreApart text ys → Contains ys x → found_in text ys (text x) ≡ Some x) → Contains ys x → (if bytes_eq (text y) (text x) then Some y else found_in text ys (text x)) ≡ Some x
      later again among = ap (λ (test : Bool). if test then Some y else found_in text ys (text x)) (bytes_apart (text y) (text x) (apart_from y ys x apart among)) ∙ again (later_apart y ys apart) among

-- Of values that are found by their texts each, as `refl` says of each constructor, a line.
pub one_of_line : {A : Type 0} {Good : A → Type 0} (text : A → List ℕ) (xs : List A) (some : A) → ((x : A) → Good x) → ((x : A) → found_in text xs (text x) ≡ Some x) → ((x : A) → feeds_in (text x) ≡ 0) → IsLine Good text (found_in text xs)
one_of_line text xs some all found plain = record {
  some = some;
  some_good = all some;
  complete = λ x good. found x;
  sound = λ line x e. (all x, (found_text text xs line x e).1);
  plain = λ x good. plain x;
}

-- Of the values of a list no two of which have the same text, a line.
pub listed_line : {A : Type 0} (text : A → List ℕ) (xs : List A) (some : A) → Contains xs some → AreApart text xs → All (λ x. feeds_in (text x) ≡ 0) xs → IsLine (Contains xs) text (found_in text xs)
listed_line text xs some contains apart plain = record {
  some = some;
  some_good = contains;
  complete = λ x good. found_again text xs x apart good;
  sound = λ line x e. found_text text xs line x e;
  plain = λ x good. All-contains (λ y. feeds_in (text y) ≡ 0) xs x plain good;
}
