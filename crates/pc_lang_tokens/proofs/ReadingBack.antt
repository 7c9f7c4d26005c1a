-- What is written for a name is read back as that name.
use Rattle.std.proofs.Common.{◌≡◌, ℕ, ◌+◌, ◌-◌, ◌<◌, ◌==◌, ◌&&◌, ◌||◌, not, leb, Bool, true, false, List, [], ◌∷◌, ◌++◌, length, take, Option, Some, None, Ok, refl, sym, ◌∙◌, arith}
use Rattle.std.specs.Prelude.{is_some}
use Rattle.std.specs.Char.{is_ascii_digit}
use Rattle.std.specs.List.{list_all}
use Rattle.std.proofs.lemmas.Bool.{and_parts, false≢true, lt-ltb, or_parts}
use Rattle.std.proofs.lemmas.Bool.Decides.{nat_tests}
use Rattle.std.proofs.lemmas.List.{append_assoc, length-append}
use Rattle.std.proofs.Math.Seq.{take-append_seam}
use Rattle.pc_num.specs.Scaled.{digits_len}
use Rattle.pc_model.specs.Texts.{is_name}
use Rattle.pc_lang_tokens.specs.declared.token.Token.{Token}
use Rattle.pc_lang_tokens.specs.declared.token.Token.TheVariants as tokens
use Rattle.pc_lang_tokens.specs.declared.token.Word.{Word}
use Rattle.pc_lang_tokens.specs.Lexing.{goes_on_name, letters_len, number_len, other_token, quoted_from, starts_blank, token_at, tokens_from, unsigned_len, word_len, word_token}
use Rattle.pc_lang_tokens.specs.Spelling.{begins_as_word, doubled, is_bare, is_reserved, is_word, is_word_byte, name_text, reserved, starts_word}
use Rattle.pc_lang_tokens.proofs.Doubled.{quoted_again}
use Rattle.pc_lang_tokens.proofs.Fronts.{text_bare, text_quoted}
use Rattle.pc_lang_tokens.proofs.Quotes.{quote_last, quote_stops}
use Rattle.pc_lang_tokens.proofs.Reading.{byte_begins}
use Rattle.pc_lang_tokens.proofs.Words.{bare_is_word}

skip_over : (xs rest : List ℕ) (before : List Token) → tokens_from before (length xs) (xs ++ rest) ≡ tokens_from before 0 rest
unfolding tokens_from
skip_over [] rest before = refl
skip_over (x ∷ xs) rest before = skip_over xs rest before

-- a text that begins with all bytes of a token
pub token_again : (before : List Token) (text rest : List ℕ) (token : Token) → 0 < length text → starts_blank text ≡ false → token_at (text ++ rest) ≡ Ok (token, length text) → tokens_from before 0 (text ++ rest) ≡ tokens_from (before ++ token ∷ []) 0 rest
token_again before [] rest token some blank found = absurd (omega (arith, some))
token_again before (byte ∷ text) rest token some blank found =
    let e : length (byte ∷ text) - 1 ≡ length text = omega arith in
    byte_begins before (byte ∷ (text ++ rest)) token (length (byte ∷ text)) (omega arith) blank found
    ∙ rw e (skip_over text rest (before ++ token ∷ []))

pub at_number : (text : List ℕ) (len : ℕ) → number_len text ≡ len → 0 < len → token_at text ≡ Ok (tokens.Number (take len text), len)
unfolding token_at
at_number text len e some = rw (e, lt-ltb 0 len some) refl

at_word : (text : List ℕ) (len : ℕ) → number_len text ≡ 0 → word_len text ≡ len → 0 < len → token_at text ≡ word_token (take len text)
unfolding token_at
at_word text len none e some = rw (none, e, lt-ltb 0 len some) refl

pub at_other : (text : List ℕ) → number_len text ≡ 0 → word_len text ≡ 0 → token_at text ≡ other_token text
unfolding token_at
at_other text none no_word = rw (none, no_word) refl

no_number : (byte : ℕ) (rest : List ℕ) → starts_word byte ≡ true → number_len (byte ∷ rest) ≡ 0
unfolding number_len unsigned_len digits_len
no_number byte rest word =
    let minus : (byte == 45) ≡ false = grind (arith, nat_tests) in
    let plus : (byte == 43) ≡ false = grind (arith, nat_tests) in
    let digit : is_ascii_digit byte ≡ false = grind (arith, nat_tests) in
    rw (minus, plus, digit) refl

letters_none : (rest : List ℕ) → goes_on_name rest ≡ false → letters_len rest ≡ 0
unfolding letters_len
letters_none [] e = refl
letters_none (byte ∷ rest) e = rw (or_parts (is_word_byte byte) (byte == 34) e).0 refl

letters_again : (name rest : List ℕ) → list_all is_word_byte name ≡ true → goes_on_name rest ≡ false → letters_len (name ++ rest) ≡ length name
unfolding letters_len
letters_again [] rest all past = letters_none rest past
letters_again (byte ∷ name) rest all past =
    let parts = and_parts (is_word_byte byte) (list_all is_word_byte name) all in
    rw (parts.0, letters_again name rest parts.1 past) (omega arith)

none_of : (found : Option Word) → not (is_some found) ≡ true → found ≡ None
none_of None e = refl
none_of (Some word) e = absurd (false≢true e)

not_reserved : (name : List ℕ) → is_bare name ≡ true → reserved name ≡ None
unfolding is_bare is_reserved
not_reserved name bare = none_of (reserved name) (and_parts (is_word name) (not (is_some (reserved name))) bare).1

bare_token : (name : List ℕ) → is_bare name ≡ true → word_token name ≡ Ok (tokens.Name name, length name)
unfolding word_token
bare_token name bare = rw (not_reserved name bare, bare_is_word name bare) refl

word_size : (byte : ℕ) (name rest : List ℕ) → starts_word byte ≡ true → letters_len (byte ∷ (name ++ rest)) ≡ length (byte ∷ name) → word_len (byte ∷ (name ++ rest)) ≡ length (byte ∷ name)
unfolding word_len
word_size byte name rest begins e = rw begins e

pub word_parts : (name : List ℕ) → is_word name ≡ true → (begins_as_word name ≡ true) × (list_all is_word_byte name ≡ true)
unfolding is_word
word_parts name word =
    let front = and_parts (begins_as_word name && list_all is_word_byte name) (leb (length name) 64) word in
    and_parts (begins_as_word name) (list_all is_word_byte name) front.0

not_blank : (byte : ℕ) → starts_word byte ≡ true → ((byte == 32) || (byte == 9)) ≡ false
not_blank byte word = grind (arith, nat_tests)

-- a word before all that no name goes on with
pub word_again : (before : List Token) (text rest : List ℕ) (token : Token) → (begins_as_word text ≡ true) × (list_all is_word_byte text ≡ true) → word_token text ≡ Ok (token, length text) → goes_on_name rest ≡ false → tokens_from before 0 (text ++ rest) ≡ tokens_from (before ++ token ∷ []) 0 rest
word_again before [] rest token parts found past = absurd (false≢true parts.0)
word_again before (byte ∷ text) rest token parts found past =
    let size = word_size byte text rest parts.0 (letters_again (byte ∷ text) rest parts.1 past) in
    let at = at_word (byte ∷ (text ++ rest)) (length (byte ∷ text)) (no_number byte (text ++ rest) parts.0) size (omega arith) in
    token_again before (byte ∷ text) rest token (omega arith) (not_blank byte parts.0)
    (at ∙ rw (take-append_seam (byte ∷ text) rest) found)

no_number_quoted : (rest : List ℕ) → number_len (34 ∷ rest) ≡ 0
unfolding number_len unsigned_len digits_len
no_number_quoted rest = refl

no_word_quoted : (rest : List ℕ) → word_len (34 ∷ rest) ≡ 0
unfolding word_len
no_word_quoted rest = refl

past_quote : (len : ℕ) (name rest : List ℕ) → goes_on_name rest ≡ false → quoted_from true len name rest ≡ Some (name, len)
past_quote len name [] past = quote_last len name
past_quote len name (byte ∷ rest) past = quote_stops len name byte rest (or_parts (is_word_byte byte) (byte == 34) past).1

quoted_found : (name rest : List ℕ) → is_name name ≡ true → goes_on_name rest ≡ false → other_token (34 ∷ (doubled name ++ 34 ∷ rest)) ≡ Ok (tokens.Name name, 1 + length (doubled name) + 1)
quoted_found name rest named past =
    rw (quoted_again name [] rest 1, past_quote (1 + length (doubled name) + 1) name rest past, named) refl

quoted_name_again : (before : List Token) (name rest : List ℕ) → is_name name ≡ true → goes_on_name rest ≡ false → tokens_from before 0 (34 ∷ (doubled name ++ 34 ∷ []) ++ rest) ≡ tokens_from (before ++ tokens.Name name ∷ []) 0 rest
quoted_name_again before name rest named past =
    let text = 34 ∷ (doubled name ++ 34 ∷ []) in
    let size : 1 + length (doubled name) + 1 ≡ length (34 ∷ (doubled name ++ 34 ∷ [])) = (let e = length-append (doubled name) (34 ∷ []) in omega (arith, e)) in
    let found : other_token (34 ∷ ((doubled name ++ 34 ∷ []) ++ rest)) ≡ Ok (tokens.Name name, length (34 ∷ (doubled name ++ 34 ∷ []))) = rw (append_assoc (doubled name) (34 ∷ []) rest, sym size) (quoted_found name rest named past) in
    token_again before (34 ∷ (doubled name ++ 34 ∷ [])) rest (tokens.Name name) (omega arith) refl
    (at_other _ (no_number_quoted _) (no_word_quoted _) ∙ found)

pub names_read_back : (before : List Token) (name rest : List ℕ) → is_name name ≡ true → goes_on_name rest ≡ false → tokens_from before 0 (name_text name ++ rest) ≡ tokens_from (before ++ tokens.Name name ∷ []) 0 rest
names_read_back before name rest named past = by_test (is_bare name) refl
  where
    by_test : (test : Bool) → is_bare name ≡ test → tokens_from before 0 (name_text name ++ rest) ≡ tokens_from (before ++ tokens.Name name ∷ []) 0 rest
    by_test true e = rw (text_bare name e) (word_again before name rest (tokens.Name name) (word_parts name (bare_is_word name e)) (bare_token name e) past)
    by_test false e = rw (text_quoted name e) (quoted_name_again before name rest named past)
