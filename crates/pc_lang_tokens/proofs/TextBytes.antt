-- The bytes of tokens that are written one after another: text with no control characters.
use Rattle.std.proofs.Common.{◌≡◌, ◌≢◌, ℕ, ◌+◌, ◌<◌, ◌≤◌, ◌/◌, ◌%◌, ◌==◌, ◌&&◌, ◌||◌, Bool, true, false, List, [], ◌∷◌, ◌++◌, length, refl, arith}
use Rattle.std.specs.Prelude.{nat_le, nat_lt}
use Rattle.std.specs.Char.{is_ascii_digit, IsScalar}
use Rattle.std.specs.List.{All, list_all}
use Rattle.std.specs.Str.{is_utf8, IsAscii, IsUtf8}
use Rattle.std.proofs.Math.Utf8.{encode, encodes, scalar, scalars}
use Rattle.std.proofs.lemmas.Bool.{and_from, and_parts, cond_both}
use Rattle.std.proofs.lemmas.Bool.Decides.{nat_tests}
use Rattle.std.proofs.lemmas.List.Elements.{All-cons, All-head, All-nil, All-tail}
use Rattle.std.proofs.lemmas.List.Folds.{list_all-append}
use Rattle.std.proofs.lemmas.Str.{is_utf8-from_IsUtf8, IsUtf8-append, IsUtf8-encode, IsUtf8-from_ascii, IsUtf8-nil}
use Rattle.std.proofs.lemmas.Str.Ascii.{IsAscii-cons, IsAscii-nil}
use Rattle.pc_num.specs.Scaled.{digits_len}
use Rattle.pc_num.specs.Spelling.{point_text}
use Rattle.pc_model.specs.Texts.{IsName}
use Rattle.pc_model.proofs.Names.{name_is}
use Rattle.pc_lang_tokens.specs.declared.token.Symbol.{Symbol}
use Rattle.pc_lang_tokens.specs.declared.token.Symbol.TheVariants as symbols
use Rattle.pc_lang_tokens.specs.declared.token.Word.{Word}
use Rattle.pc_lang_tokens.specs.declared.token.Word.TheVariants as words
use Rattle.pc_lang_tokens.specs.declared.token.Token.{Token}
use Rattle.pc_lang_tokens.specs.declared.token.Token.TheVariants as tokens
use Rattle.pc_lang_tokens.specs.Spelling.{byte_text, doubled, is_bare, name_text}
use Rattle.pc_lang_tokens.specs.Texts.{are_spelled, gap, is_close, is_open, is_spelled, symbol_text, texts_after, token_text, tokens_text, word_text}
use Rattle.pc_lang_tokens.proofs.Doubled.{doubled_append, plain_text, quote_text}
use Rattle.pc_lang_tokens.proofs.Fronts.{text_bare, text_quoted, IsPrinted}
use Rattle.pc_lang_tokens.proofs.Numbers.{digit_step, digit_stop, IsNumberText, IsSign}
use Rattle.pc_lang_tokens.proofs.TokensBack.{after_cons, after_nil, all_spelled, number_form}

-- text with no control characters
abbrev IsPlain : List ℕ → Type 0
IsPlain text = (list_all (λ byte. nat_le 32 byte) text ≡ true) × IsUtf8 text

plain_none : IsPlain []
plain_none = (refl, IsUtf8-nil)

plain_append : (xs ys : List ℕ) → IsPlain xs → IsPlain ys → IsPlain (xs ++ ys)
plain_append xs ys first second = (rw (list_all-append (λ byte. nat_le 32 byte) xs ys, first.0, second.0) refl, IsUtf8-append xs ys first.1 second.1)

-- a printed byte of ASCII
abbrev is_visible : ℕ → Bool
is_visible byte = nat_le 32 byte && nat_lt byte 128

visible_printed : (text : List ℕ) → list_all is_visible text ≡ true → list_all (λ byte. nat_le 32 byte) text ≡ true
visible_printed [] all = refl
visible_printed (byte ∷ rest) all =
    let parts = and_parts (is_visible byte) (list_all is_visible rest) all in
    and_from _ _ (and_parts (nat_le 32 byte) (nat_lt byte 128) parts.0).0 (visible_printed rest parts.1)

visible_ascii : (text : List ℕ) → list_all is_visible text ≡ true → IsAscii text
visible_ascii [] all = IsAscii-nil
visible_ascii (byte ∷ rest) all =
    let parts = and_parts (is_visible byte) (list_all is_visible rest) all in
    IsAscii-cons byte rest (grind (arith, nat_tests, parts.0)) (visible_ascii rest parts.1)

plain_visible : (text : List ℕ) → list_all is_visible text ≡ true → IsPlain text
plain_visible text all = (visible_printed text all, IsUtf8-from_ascii text (visible_ascii text all))

-- Symbols, words and numbers.

plain_symbol : (which : Symbol) → IsPlain (symbol_text which)
plain_symbol symbols.Colon = plain_visible _ refl
plain_symbol symbols.Arrow = plain_visible _ refl
plain_symbol symbols.Comma = plain_visible _ refl
plain_symbol symbols.Dots = plain_visible _ refl
plain_symbol symbols.Equal = plain_visible _ refl
plain_symbol symbols.AtLeast = plain_visible _ refl
plain_symbol symbols.AtMost = plain_visible _ refl
plain_symbol symbols.Above = plain_visible _ refl
plain_symbol symbols.Below = plain_visible _ refl
plain_symbol symbols.OpenSet = plain_visible _ refl
plain_symbol symbols.CloseSet = plain_visible _ refl
plain_symbol symbols.OpenGroup = plain_visible _ refl
plain_symbol symbols.CloseGroup = plain_visible _ refl
plain_symbol symbols.Star = plain_visible _ refl

plain_word : (word : Word) → IsPlain (word_text word)
plain_word words.True = plain_visible _ refl
plain_word words.And = plain_visible _ refl
plain_word words.Or = plain_visible _ refl
plain_word words.In = plain_visible _ refl
plain_word words.Where = plain_visible _ refl
plain_word words.Group = plain_visible _ refl
plain_word words.By = plain_visible _ refl
plain_word words.Count = plain_visible _ refl
plain_word words.Sum = plain_visible _ refl
plain_word words.Min = plain_visible _ refl
plain_word words.Max = plain_visible _ refl
plain_word words.Avg = plain_visible _ refl
plain_word words.Outside = plain_visible _ refl
plain_word words.Quantile = plain_visible _ refl

visible_digits : (digits : List ℕ) → digits_len digits ≡ length digits → list_all is_visible digits ≡ true
visible_digits [] all = refl
visible_digits (digit ∷ digits) all = by_test (is_ascii_digit digit) refl (visible_digits digits)
  where
    visible_digit : is_ascii_digit digit ≡ true → is_visible digit ≡ true
    visible_digit e = grind (arith, nat_tests, e)

    by_test : (test : Bool) → is_ascii_digit digit ≡ test → (digits_len digits ≡ length digits → list_all is_visible digits ≡ true) → list_all is_visible (digit ∷ digits) ≡ true
    by_test true e after = and_from (is_visible digit) (list_all is_visible digits) (visible_digit e) (after (omega (arith, all, digit_step digit digits e)))
    by_test false e after = absurd (omega (arith, all, digit_stop digit digits e))

visible_sign : (sign : List ℕ) → IsSign sign → list_all is_visible sign ≡ true
visible_sign [] is = refl
visible_sign (byte ∷ []) is = and_from (is_visible byte) true (sign_visible byte is) refl
  where
    sign_visible : (byte : ℕ) → ((byte == 45) || (byte == 43)) ≡ true → is_visible byte ≡ true
    sign_visible byte e = grind (arith, nat_tests, e)
visible_sign (byte ∷ other ∷ rest) is = absurd is

visible_point : (decimals : List ℕ) → digits_len decimals ≡ length decimals → list_all is_visible (point_text decimals) ≡ true
visible_point [] all = refl
visible_point (digit ∷ digits) all = visible_digits (digit ∷ digits) all

plain_number : (text : List ℕ) → IsNumberText text → IsPlain text
plain_number text number =
    rw number.form
    (plain_append number.sign (number.whole ++ point_text number.decimals)
    (plain_visible number.sign (visible_sign number.sign number.signed))
    (plain_append number.whole (point_text number.decimals)
    (plain_visible number.whole (visible_digits number.whole number.whole_digits))
    (plain_visible (point_text number.decimals) (visible_point number.decimals number.decimal_digits))))

-- Names, where quotes are written twice.

abbrev IsNoQuote : ℕ → Type 0
IsNoQuote byte = byte ≢ 34

not_34 : (byte : ℕ) → byte ≢ 34 → (byte == 34) ≡ false
not_34 byte other = grind (arith, nat_tests, other)

doubled_same : (text : List ℕ) → All IsNoQuote text → doubled text ≡ text
unfolding doubled
doubled_same [] all = refl
doubled_same (byte ∷ rest) all =
    rw (plain_text byte (not_34 byte (All-head IsNoQuote byte rest all)), doubled_same rest (All-tail IsNoQuote byte rest all)) refl

above_quote : (byte : ℕ) (rest : List ℕ) → 34 < byte → All IsNoQuote rest → All IsNoQuote (byte ∷ rest)
above_quote byte rest above others = All-cons IsNoQuote byte rest (λ e. omega (arith, e, above)) others

no_quotes : All IsNoQuote []
no_quotes = All-nil IsNoQuote

-- the bytes of a character after its first
last_byte : (c : ℕ) → All IsNoQuote ((128 + c % 64) ∷ [])
last_byte c = above_quote (128 + c % 64) [] (omega arith) no_quotes

last_two : (c : ℕ) → All IsNoQuote ((128 + c / 64 % 64) ∷ (128 + c % 64) ∷ [])
last_two c = above_quote (128 + c / 64 % 64) ((128 + c % 64) ∷ []) (omega arith) (last_byte c)

last_three : (c : ℕ) → All IsNoQuote ((128 + c / 4096 % 64) ∷ (128 + c / 64 % 64) ∷ (128 + c % 64) ∷ [])
last_three c = above_quote (128 + c / 4096 % 64) ((128 + c / 64 % 64) ∷ (128 + c % 64) ∷ []) (omega arith) (last_two c)

-- the bytes of a character that is no quote
no_quote_in : (c : ℕ) → c ≢ 34 → All IsNoQuote (encode c)
unfolding encode
no_quote_in c other =
    cond_both (nat_lt c 128) _ _ (All IsNoQuote) (λ e. All-cons IsNoQuote c [] other no_quotes)
    (λ e. cond_both (nat_lt c 2048) _ _ (All IsNoQuote)
    (λ e. above_quote (192 + c / 64) ((128 + c % 64) ∷ []) (omega arith) (last_byte c))
    (λ e. cond_both (nat_lt c 65536) _ _ (All IsNoQuote)
    (λ e. above_quote (224 + c / 4096) ((128 + c / 64 % 64) ∷ (128 + c % 64) ∷ []) (omega arith) (last_two c))
    (λ e. above_quote (240 + c / 262144) ((128 + c / 4096 % 64) ∷ (128 + c / 64 % 64) ∷ (128 + c % 64) ∷ []) (omega arith) (last_three c))))

two_quotes : doubled (encode 34) ≡ 34 ∷ 34 ∷ []
unfolding doubled encode byte_text
two_quotes = refl

doubled_char : (c : ℕ) → IsScalar c → IsUtf8 (doubled (encode c))
doubled_char c is = by_test (c == 34) refl
  where
    by_test : (test : Bool) → (c == 34) ≡ test → IsUtf8 (doubled (encode c))
    by_test true e =
        let same : c ≡ 34 = grind (arith, nat_tests, e) in
        rw (same, two_quotes) (plain_visible (34 ∷ 34 ∷ []) refl).1
    by_test false e =
        let other : c ≢ 34 = (λ same. grind (arith, nat_tests, e, same)) in
        rw (doubled_same (encode c) (no_quote_in c other)) (IsUtf8-encode c is)

doubled_none : doubled [] ≡ []
unfolding doubled
doubled_none = refl

doubled_chars : (cs : List ℕ) → scalars cs ≡ true → IsUtf8 (doubled (encodes cs))
doubled_chars [] are = rw doubled_none IsUtf8-nil
doubled_chars (c ∷ cs) are =
    let parts = and_parts (scalar c) (scalars cs) are in
    rw (doubled_append (encode c) (encodes cs))
    (IsUtf8-append (doubled (encode c)) (doubled (encodes cs)) (doubled_char c parts.0) (doubled_chars cs parts.1))

doubled_is_text : (text : List ℕ) → IsUtf8 text → IsUtf8 (doubled text)
doubled_is_text text is = rw (is.1.1) at (doubled_chars is.0 is.1.0)

printed_byte_text : (byte : ℕ) → 32 ≤ byte → list_all (λ byte. nat_le 32 byte) (byte_text byte) ≡ true
printed_byte_text byte printed = by_test (byte == 34) refl
  where
    at_least : nat_le 32 byte ≡ true
    at_least = grind (arith, nat_tests, printed)

    by_test : (test : Bool) → (byte == 34) ≡ test → list_all (λ byte. nat_le 32 byte) (byte_text byte) ≡ true
    by_test true e = rw (quote_text byte e) refl
    by_test false e = rw (plain_text byte e, at_least) refl

printed_text : (text : List ℕ) → All IsPrinted text → list_all (λ byte. nat_le 32 byte) text ≡ true
printed_text [] all = refl
printed_text (byte ∷ rest) all =
    let printed = All-head IsPrinted byte rest all in
    let at_least : nat_le 32 byte ≡ true = grind (arith, nat_tests, printed.0) in
    and_from (nat_le 32 byte) _ at_least (printed_text rest (All-tail IsPrinted byte rest all))

printed_doubled : (text : List ℕ) → All IsPrinted text → list_all (λ byte. nat_le 32 byte) (doubled text) ≡ true
unfolding doubled
printed_doubled [] all = refl
printed_doubled (byte ∷ rest) all =
    let printed = All-head IsPrinted byte rest all in
    rw (list_all-append (λ byte. nat_le 32 byte) (byte_text byte) (doubled rest), printed_byte_text byte printed.0, printed_doubled rest (All-tail IsPrinted byte rest all)) refl

plain_quote : IsPlain (34 ∷ [])
plain_quote = plain_visible (34 ∷ []) refl

plain_name : (name : List ℕ) → IsName name → IsPlain (name_text name)
plain_name name named = by_test (is_bare name) refl
  where
    by_test : (test : Bool) → is_bare name ≡ test → IsPlain (name_text name)
    by_test true e = rw (text_bare name e) (printed_text name named.printed, named.text)
    by_test false e =
        rw (text_quoted name e)
        (plain_append (34 ∷ []) (doubled name ++ 34 ∷ []) plain_quote
        (plain_append (doubled name) (34 ∷ []) (printed_doubled name named.printed, doubled_is_text name named.text) plain_quote))

-- A token, and a list of them.

plain_token : (token : Token) → is_spelled token ≡ true → IsPlain (token_text token)
unfolding token_text
plain_token (tokens.Symbol which) is = plain_symbol which
plain_token (tokens.Reserved word) is = plain_word word
plain_token (tokens.Number text) is = plain_number text (number_form text is)
plain_token (tokens.Name name) is = plain_name name (name_is name is)

plain_gap : (last next : Token) → IsPlain (gap last next)
plain_gap last next = by_test (is_open last || is_close next) refl
  where
    by_test : (test : Bool) → (is_open last || is_close next) ≡ test → IsPlain (gap last next)
    by_test true e = rw e plain_none
    by_test false e = rw e (plain_visible (32 ∷ []) refl)

plain_after : (last : Token) (list : List Token) → list_all is_spelled list ≡ true → IsPlain (texts_after last list)
plain_after last [] are = rw (after_nil last) plain_none
plain_after last (next ∷ rest) are =
    let parts = and_parts (is_spelled next) (list_all is_spelled rest) are in
    rw (after_cons last next rest)
    (plain_append (gap last next) (token_text next ++ texts_after next rest) (plain_gap last next)
    (plain_append (token_text next) (texts_after next rest) (plain_token next parts.0) (plain_after next rest parts.1)))

plain_tokens : (list : List Token) → list_all is_spelled list ≡ true → IsPlain (tokens_text list)
unfolding tokens_text
plain_tokens [] are = plain_none
plain_tokens (first ∷ rest) are =
    let parts = and_parts (is_spelled first) (list_all is_spelled rest) are in
    plain_append (token_text first) (texts_after first rest) (plain_token first parts.0) (plain_after first rest parts.1)

-- no byte is a control character below 32
pub tokens_text_printed : (list : List Token) → are_spelled list ≡ true → list_all (λ byte. nat_le 32 byte) (tokens_text list) ≡ true
tokens_text_printed list are = (plain_tokens list (all_spelled list are)).0

pub tokens_text_is_text : (list : List Token) → are_spelled list ≡ true → is_utf8 (tokens_text list) ≡ true
tokens_text_is_text list are = is_utf8-from_IsUtf8 (tokens_text list) (plain_tokens list (all_spelled list are)).1
