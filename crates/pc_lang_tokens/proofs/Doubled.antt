-- What is read between quotes is the name whose bytes stand there, each quote twice.
use Rattle.std.proofs.Common.{◌≡◌, ℕ, suc, ◌+◌, ◌*◌, ◌≤◌, ◌==◌, Bool, true, false, List, [], ◌∷◌, ◌++◌, length, Some, refl, sym, ◌∙◌, arith}
use Rattle.std.proofs.lemmas.Bool.{eqb-true}
use Rattle.std.proofs.lemmas.List.{append-nil, append_assoc, length-append}
use Rattle.std.proofs.lemmas.Option.{none-some, cond_some}
use Rattle.pc_lang_tokens.proofs.Quotes.{quote_opens, quote_adds, quote_last, quote_stops, nothing_quoted}
use Rattle.pc_lang_tokens.specs.Lexing.{quoted_from}
use Rattle.pc_lang_tokens.specs.Spelling.{byte_text, doubled}

pub quote_text : (byte : ℕ) → (byte == 34) ≡ true → byte_text byte ≡ 34 ∷ 34 ∷ []
unfolding byte_text
quote_text byte e = rw e refl

pub plain_text : (byte : ℕ) → (byte == 34) ≡ false → byte_text byte ≡ byte ∷ []
unfolding byte_text
plain_text byte e = rw e refl

pub doubled_append : (xs ys : List ℕ) → doubled (xs ++ ys) ≡ doubled xs ++ doubled ys
unfolding doubled
doubled_append [] ys = refl
doubled_append (byte ∷ xs) ys = rw (doubled_append xs ys) (sym (append_assoc (byte_text byte) (doubled xs) (doubled ys)))

doubled_one : (byte : ℕ) → doubled (byte ∷ []) ≡ byte_text byte
unfolding doubled
doubled_one byte = append-nil (byte_text byte)

byte_text_short : (byte : ℕ) → length (byte_text byte) ≤ 2
byte_text_short byte = by_test (byte == 34) refl
  where
    by_test : (test : Bool) → (byte == 34) ≡ test → length (byte_text byte) ≤ 2
    by_test true e = rw (quote_text byte e) (omega arith)
    by_test false e = rw (plain_text byte e) (omega arith)

pub doubled_short : (name : List ℕ) → length (doubled name) ≤ 2 * length name
unfolding doubled
doubled_short [] = omega arith
doubled_short (byte ∷ rest) =
    let first = byte_text_short byte in
    let others = doubled_short rest in
    rw (length-append (byte_text byte) (doubled rest)) (omega (arith, first, others))

quote_pair : (before rest : List ℕ) (len : ℕ) → quoted_from false len before (34 ∷ 34 ∷ rest) ≡ quoted_from false (len + 2) (before ++ 34 ∷ []) rest
unfolding quoted_from
quote_pair before rest len = let e : len + 1 + 1 ≡ len + 2 = omega arith in rw e refl

-- a byte of a name, as it stands between quotes
quoted_byte : (byte : ℕ) (before rest : List ℕ) (len : ℕ) → quoted_from false len before (byte_text byte ++ rest) ≡ quoted_from false (len + length (byte_text byte)) (before ++ byte ∷ []) rest
quoted_byte byte before rest len = by_test (byte == 34) refl
  where
    by_test : (test : Bool) → (byte == 34) ≡ test → quoted_from false len before (byte_text byte ++ rest) ≡ quoted_from false (len + length (byte_text byte)) (before ++ byte ∷ []) rest
    by_test true e = rw (quote_text byte e, eqb-true byte 34 e) (quote_pair before rest len)
    by_test false e = rw (plain_text byte e) (quote_adds false len before byte rest e)

same_reading : (a b : ℕ) (x y rest : List ℕ) → a ≡ b → x ≡ y → quoted_from true a x rest ≡ quoted_from true b y rest
same_reading a b x y rest p q = rw (p, q) refl

-- a name that is read to its last quote
pub quoted_again : (name before rest : List ℕ) (len : ℕ) → quoted_from false len before (doubled name ++ 34 ∷ rest) ≡ quoted_from true (len + length (doubled name) + 1) (before ++ name) rest
unfolding doubled
quoted_again [] before rest len =
    let e : len + 0 + 1 ≡ len + 1 = omega arith in
    rw (e, append-nil before) (quote_opens len before 34 rest refl)
quoted_again (byte ∷ name) before rest len =
    let size : len + length (byte_text byte) + length (doubled name) + 1 ≡ len + length (byte_text byte ++ doubled name) + 1 = rw (length-append (byte_text byte) (doubled name)) (omega arith) in
    rw (append_assoc (byte_text byte) (doubled name) (34 ∷ rest))
    (quoted_byte byte before (doubled name ++ 34 ∷ rest) len
    ∙ quoted_again name (before ++ byte ∷ []) rest (len + length (byte_text byte))
    ∙ same_reading _ _ _ _ rest size (append_assoc before (byte ∷ []) name))

abbrev pub quote_left : Bool → List ℕ → List ℕ
quote_left true text = 34 ∷ text
quote_left false text = text

added : (before rest : List ℕ) (byte : ℕ) → doubled (before ++ byte ∷ []) ++ rest ≡ doubled before ++ (byte_text byte ++ rest)
added before rest byte = rw (doubled_append before (byte ∷ []), doubled_one byte) (append_assoc (doubled before) (byte_text byte) rest)

-- what is read to the end of a text was written so
quoted_back : (closing : Bool) (text before : List ℕ) (len : ℕ) (found : List ℕ × ℕ) → quoted_from closing len before text ≡ Some found → found.1 ≡ len + length text → doubled before ++ quote_left closing text ≡ doubled found.0 ++ 34 ∷ []
quoted_back false [] before len found e total = absurd (none-some found (sym (nothing_quoted len before) ∙ e))
quoted_back true [] before len found e total =
    let same = (cond_some true (before, len) found (sym (quote_last len before) ∙ e)).1 in
    rw (sym same) refl
quoted_back false (byte ∷ rest) before len found e total =
    by_test (byte == 34) refl
    (λ q. quoted_back true rest before (len + 1) found (sym (quote_opens len before byte rest q) ∙ e) (omega (arith, total)))
    (λ q. quoted_back false rest (before ++ byte ∷ []) (len + 1) found (sym (quote_adds false len before byte rest q) ∙ e) (omega (arith, total)))
  where
    by_test : (test : Bool) → (byte == 34) ≡ test
        → ((byte == 34) ≡ true → doubled before ++ 34 ∷ rest ≡ doubled found.0 ++ 34 ∷ [])
        → ((byte == 34) ≡ false → doubled (before ++ byte ∷ []) ++ rest ≡ doubled found.0 ++ 34 ∷ [])
        → doubled before ++ byte ∷ rest ≡ doubled found.0 ++ 34 ∷ []
    by_test true q opens adds = rw (eqb-true byte 34 q) (opens q)
    by_test false q opens adds = sym (rw (plain_text byte q) at (added before rest byte)) ∙ adds q
quoted_back true (byte ∷ rest) before len found e total =
    by_test (byte == 34) refl
    (λ q. quoted_back false rest (before ++ byte ∷ []) (len + 1) found (sym (quote_adds true len before byte rest q) ∙ e) (omega (arith, total)))
  where
    by_test : (test : Bool) → (byte == 34) ≡ test
        → ((byte == 34) ≡ true → doubled (before ++ byte ∷ []) ++ rest ≡ doubled found.0 ++ 34 ∷ [])
        → doubled before ++ 34 ∷ byte ∷ rest ≡ doubled found.0 ++ 34 ∷ []
    by_test true q adds = rw (eqb-true byte 34 q) (sym (rw (quote_text byte q) at (added before rest byte)) ∙ adds q)
    by_test false q adds =
        let same = (cond_some true (before, len) found (sym (quote_stops len before byte rest q) ∙ e)).1 in
        let short : len ≡ len + suc (length rest) = rw (sym same) at total in
        absurd (omega (arith, short))

-- what is read to the end of a text, from its start
pub quoted_whole : (text : List ℕ) (found : List ℕ × ℕ) → quoted_from false 1 [] text ≡ Some found → found.1 ≡ length text + 1 → text ≡ doubled found.0 ++ 34 ∷ []
unfolding doubled
quoted_whole text found e total = quoted_back false text [] 1 found e (omega (arith, total))
