-- Fronts of bytes that are names as they are written.
use Rattle.std.proofs.Common.{◌≡◌, ◌≢◌, ℕ, ◌+◌, ◌-◌, ◌≤◌, ◌<◌, ◌==◌, ◌&&◌, not, leb, Bool, true, false, List, [], ◌∷◌, ◌++◌, length, min, take, Option, Some, None, refl, sym, ◌∙◌, arith}
use Rattle.std.specs.List.{All, list_all}
use Rattle.std.proofs.lemmas.Bool.{and_parts, false≢true, not-true, eqb-true}
use Rattle.std.proofs.lemmas.Bool.Decides.{nat_tests}
use Rattle.std.proofs.lemmas.List.{length-append, length-take-le}
use Rattle.std.proofs.lemmas.List.Elements.{All-nil, All-cons}
use Rattle.std.proofs.lemmas.Option.{none-some, cond_some}
use Rattle.std.proofs.Math.Seq.{get_or-append_seam}
use Rattle.pc_model.specs.Texts.{is_name, IsName}
use Rattle.pc_model.proofs.Names.{name_is, is_name_of}
use Rattle.pc_lang_tokens.specs.Front.{IsFront, ends_with_quote, name_from_quote, name_in_all, name_written, needs_quotes, quoted_name}
use Rattle.pc_lang_tokens.specs.Lexing.{quoted_from}
use Rattle.pc_lang_tokens.specs.Spelling.{begins_as_word, doubled, is_bare, is_word, is_word_byte, name_text}
use Rattle.pc_lang_tokens.proofs.Doubled.{doubled_short, quoted_again, quoted_whole}
use Rattle.pc_lang_tokens.proofs.Quotes.{quote_last}
use Rattle.pc_lang_tokens.proofs.Words.{bare_is_text, bare_is_word}

pub text_bare : (name : List ℕ) → is_bare name ≡ true → name_text name ≡ name
unfolding name_text
text_bare name e = rw e refl

pub text_quoted : (name : List ℕ) → is_bare name ≡ false → name_text name ≡ 34 ∷ (doubled name ++ 34 ∷ [])
unfolding name_text
text_quoted name e = rw e refl

abbrev pub IsPrinted : ℕ → Type 0
IsPrinted byte = (32 ≤ byte) × (byte ≢ 127)

word_printed : (byte : ℕ) → is_word_byte byte ≡ true → IsPrinted byte
word_printed byte e = (grind (arith, nat_tests), λ same. grind (arith, nat_tests))

words_printed : (text : List ℕ) → list_all is_word_byte text ≡ true → All IsPrinted text
words_printed [] e = All-nil IsPrinted
words_printed (byte ∷ rest) e =
    let parts = and_parts (is_word_byte byte) (list_all is_word_byte rest) e in
    All-cons IsPrinted byte rest (word_printed byte parts.0) (words_printed rest parts.1)

begins_some : (text : List ℕ) → begins_as_word text ≡ true → 0 < length text
begins_some [] e = absurd (false≢true e)
begins_some (byte ∷ rest) e = omega arith

word_is_name : (name : List ℕ) → is_bare name ≡ true → is_word name ≡ true → IsName name
unfolding is_word
word_is_name name bare word =
    let short = and_parts (begins_as_word name && list_all is_word_byte name) (leb (length name) 64) word in
    let front = and_parts (begins_as_word name) (list_all is_word_byte name) short.0 in
    record {
      text = bare_is_text name bare;
      some = begins_some name front.0;
      short = grind (arith, nat_tests, short.1);
      printed = words_printed name front.1;
    }

pub bare_is_name : (name : List ℕ) → is_bare name ≡ true → IsName name
bare_is_name name bare = word_is_name name bare (bare_is_word name bare)

quote_not_bare : (rest : List ℕ) → is_bare (34 ∷ rest) ≡ false
unfolding is_bare is_word
quote_not_bare rest = refl

written_bare : (name : List ℕ) → is_bare name ≡ true → name_written name ≡ Some name
unfolding name_written
written_bare name e = rw e refl

written_quote : (rest : List ℕ) → name_written (34 ∷ rest) ≡ quoted_name rest
unfolding name_written
written_quote rest = rw (quote_not_bare rest) refl

ends_so : (xs : List ℕ) → ends_with_quote (xs ++ 34 ∷ []) ≡ true
ends_so xs =
    let size : length (xs ++ 34 ∷ []) - 1 ≡ length xs = rw (length-append xs (34 ∷ [])) (omega arith) in
    rw (size, get_or-append_seam xs 34 [] 0) refl

in_all : (len total : ℕ) (name : List ℕ) → (total == len) ≡ true → needs_quotes name ≡ true → name_in_all len (Some (name, total)) ≡ Some name
in_all len total name p q = rw (p, q) refl

equal_so : (a b : ℕ) → a ≡ b → (a == b) ≡ true
equal_so a b e = grind (arith, nat_tests)

needs_so : (name : List ℕ) → IsName name → is_bare name ≡ false → needs_quotes name ≡ true
needs_so name named e = rw (is_name_of name named, e) refl

quoted_name_again : (name : List ℕ) → IsName name → is_bare name ≡ false → quoted_name (doubled name ++ 34 ∷ []) ≡ Some name
unfolding quoted_name
quoted_name_again name named bare =
    let total : (1 + length (doubled name) + 1 == length (doubled name ++ 34 ∷ []) + 1) ≡ true = equal_so _ _ (rw (length-append (doubled name) (34 ∷ [])) (omega arith)) in
    let read = quoted_again name [] [] 1 ∙ quote_last (1 + length (doubled name) + 1) name in
    rw (ends_so (doubled name), read) (in_all _ _ name total (needs_so name named bare))

pub written_again : (name : List ℕ) → IsName name → name_written (name_text name) ≡ Some name
written_again name named = by_test (is_bare name) refl
  where
    by_test : (test : Bool) → is_bare name ≡ test → name_written (name_text name) ≡ Some name
    by_test true e = rw (text_bare name e) (written_bare name e)
    by_test false e = rw (text_quoted name e) (written_quote (doubled name ++ 34 ∷ []) ∙ quoted_name_again name named e)

abbrev Wrote : List ℕ → List ℕ → Type 0
Wrote text name = IsName name × (name_text name ≡ text)

wrote_quoted : (rest : List ℕ) (found : List ℕ × ℕ) → quoted_from false 1 [] rest ≡ Some found → ((found.1 == length rest + 1) && needs_quotes found.0) ≡ true → Wrote (34 ∷ rest) found.0
wrote_quoted rest found read tests =
    let parts = and_parts (found.1 == length rest + 1) (needs_quotes found.0) tests in
    let needs = and_parts (is_name found.0) (not (is_bare found.0)) parts.1 in
    let whole = quoted_whole rest found read (grind (arith, nat_tests, parts.0)) in
    (name_is found.0 needs.0, text_quoted found.0 (not-true (is_bare found.0) needs.1) ∙ rw (sym whole) refl)

from_read : (rest name : List ℕ) (read : Option (List ℕ × ℕ)) → quoted_from false 1 [] rest ≡ read → name_in_all (length rest + 1) read ≡ Some name → Wrote (34 ∷ rest) name
from_read rest name None read e = absurd (none-some name e)
from_read rest name (Some found) read e =
    let both = cond_some ((found.1 == length rest + 1) && needs_quotes found.0) found.0 name e in
    rw (sym both.1) (wrote_quoted rest found read both.0)

from_quoted : (rest name : List ℕ) → quoted_name rest ≡ Some name → Wrote (34 ∷ rest) name
unfolding quoted_name
from_quoted rest name e = by_test (ends_with_quote rest) refl
  where
    by_test : (test : Bool) → ends_with_quote rest ≡ test → Wrote (34 ∷ rest) name
    by_test true q = from_read rest name (quoted_from false 1 [] rest) refl (rw q at e)
    by_test false q = absurd (none-some name (rw q at e))

from_quote : (text name : List ℕ) → name_from_quote text ≡ Some name → Wrote text name
from_quote [] name e = absurd (none-some name e)
from_quote (byte ∷ rest) name e = by_test (byte == 34) refl
  where
    by_test : (test : Bool) → (byte == 34) ≡ test → Wrote (byte ∷ rest) name
    by_test true q = rw (eqb-true byte 34 q) (from_quoted rest name (rw q at e))
    by_test false q = absurd (none-some name (rw q at e))

pub written_is : (text name : List ℕ) → name_written text ≡ Some name → Wrote text name
unfolding name_written
written_is text name e = by_test (is_bare text) refl
  where
    by_test : (test : Bool) → is_bare text ≡ test → Wrote text name
    by_test true q = let same = (cond_some true text name (rw q at e)).1 in rw (sym same) (bare_is_name text q, text_bare text q)
    by_test false q = from_quote text name (rw q at e)

pub text_short : (name : List ℕ) → length name ≤ 64 → length (name_text name) ≤ 130
text_short name short = by_test (is_bare name) refl
  where
    by_test : (test : Bool) → is_bare name ≡ test → length (name_text name) ≤ 130
    by_test true e = rw (text_bare name e) (omega (arith, short))
    by_test false e =
        let inner = doubled_short name in
        rw (text_quoted name e, length-append (doubled name) (34 ∷ [])) (omega (arith, short, inner))

pub front_short : (bytes name : List ℕ) (len : ℕ) → IsFront bytes name len → len ≤ min (length bytes) 130
front_short bytes name len front =
    let within = front.within in
    let size = length-take-le len bytes within in
    let short : len ≤ 130 = rw (sym size, sym front.written) (text_short name front.named.short) in
    grind arith

pub front_found : (bytes name : List ℕ) (len : ℕ) → len ≤ length bytes → name_written (take len bytes) ≡ Some name → IsFront bytes name len
front_found bytes name len within found = let is = written_is (take len bytes) name found in record { named = is.0; within = within; written = is.1 }

reads_front : (bytes name : List ℕ) (len most : ℕ) → IsFront bytes name len → len ≡ most → name_written (take most bytes) ≡ Some name
reads_front bytes name len most front same = rw (sym same, sym front.written) (written_again name front.named)

pub front_shorter : (bytes name : List ℕ) (len most : ℕ) → IsFront bytes name len → len ≤ most → name_written (take most bytes) ≡ None → len ≤ most - 1
front_shorter bytes name len most front within none = by_test (len == most) refl
  where
    equal : (len == most) ≡ true → len ≡ most
    equal e = grind (arith, nat_tests)

    by_test : (test : Bool) → (len == most) ≡ test → len ≤ most - 1
    by_test true e = absurd (none-some name (sym none ∙ reads_front bytes name len most front (equal e)))
    by_test false e = grind (arith, nat_tests)

nothing_written : name_written [] ≡ None
unfolding name_written is_bare is_word
nothing_written = refl

pub no_front : (bytes name : List ℕ) (len : ℕ) → IsFront bytes name len → len ≤ 0 → ⊥
no_front bytes name len front none = none-some name (sym nothing_written ∙ reads_front bytes name len 0 front (omega (arith, none)))

pub ruleset steps = (front_short, front_found, front_shorter, no_front)
