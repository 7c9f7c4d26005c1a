-- Tokens that are written one after another are read back as those tokens.
use Rattle.std.proofs.Common.{◌≡◌, ℕ, ◌<◌, ◌==◌, ◌||◌, Bool, true, false, List, [], ◌∷◌, ◌++◌, length, get_or, Some, Ok, refl, ◌∙◌, arith, append_assoc}
use Rattle.std.specs.Char.{is_ascii_digit}
use Rattle.std.specs.List.{list_all}
use Rattle.std.proofs.lemmas.Bool.{and_parts, eqb-true, false≢true, ltb-true, or_parts}
use Rattle.std.proofs.lemmas.Bool.Decides.{nat_tests}
use Rattle.std.proofs.lemmas.List.{append-nil, take_all}
use Rattle.std.proofs.Math.Seq.{take-append_seam}
use Rattle.pc_num.specs.Scaled.{digits_len}
use Rattle.pc_lang_tokens.specs.declared.token.Symbol.{Symbol}
use Rattle.pc_lang_tokens.specs.declared.token.Symbol.TheVariants as symbols
use Rattle.pc_lang_tokens.specs.declared.token.Word.{Word}
use Rattle.pc_lang_tokens.specs.declared.token.Word.TheVariants as words
use Rattle.pc_lang_tokens.specs.declared.token.Token.{Token}
use Rattle.pc_lang_tokens.specs.declared.token.Token.TheVariants as tokens
use Rattle.pc_lang_tokens.specs.Lexing.{goes_on_name, goes_on_number, is_blank, number_len, starts_blank, symbol_token, token_at, tokens_from, tokens_of, unsigned_len, word_len, word_token}
use Rattle.pc_lang_tokens.specs.Spelling.{begins_as_word, is_word_byte, reserved}
use Rattle.pc_lang_tokens.specs.Texts.{are_spelled, gap, is_close, is_number, is_open, is_spelled, next_text, symbol_text, texts_after, token_text, tokens_text, word_text}
use Rattle.pc_lang_tokens.proofs.Numbers.{IsNumberText, front_number, number_back}
use Rattle.pc_lang_tokens.proofs.ReadingBack.{at_number, at_other, names_read_back, token_again, word_again}

abbrev goes_on_symbol : List ℕ → Bool
goes_on_symbol [] = false
goes_on_symbol (byte ∷ rest) = (byte == 61) || (byte == 62)

-- could these bytes belong to a token that stands before them?
abbrev goes_on : List ℕ → Bool
goes_on rest = goes_on_name rest || (goes_on_number rest || goes_on_symbol rest)

record StandsApart (rest : List ℕ) : Type 0 where
  name : goes_on_name rest ≡ false
  number : goes_on_number rest ≡ false
  symbol : goes_on_symbol rest ≡ false

apart : (rest : List ℕ) → goes_on rest ≡ false → StandsApart rest
apart rest e =
    let first = or_parts (goes_on_name rest) (goes_on_number rest || goes_on_symbol rest) e in
    let second = or_parts (goes_on_number rest) (goes_on_symbol rest) first.1 in
    record { name = first.0; number = second.0; symbol = second.1 }

-- Numbers.

number_parts : (text : List ℕ) → is_number text ≡ true → (0 < length text) × (number_len text ≡ length text)
unfolding is_number
number_parts text e =
    let parts = and_parts _ _ e in
    (ltb-true 0 (length text) parts.0, eqb-true (number_len text) (length text) parts.1)

pub number_form : (text : List ℕ) → is_number text ≡ true → IsNumberText text
number_form text e =
    let parts = number_parts text e in
    rw (parts.1, take_all (length text) text (omega arith)) at (front_number text (omega (arith, parts.0, parts.1)))

blank_byte : (byte : ℕ) (rest : List ℕ) → is_blank byte ≡ true → number_len (byte ∷ rest) ≡ 0
unfolding number_len unsigned_len digits_len
blank_byte byte rest blank =
    let minus : (byte == 45) ≡ false = grind (arith, nat_tests, blank) in
    let plus : (byte == 43) ≡ false = grind (arith, nat_tests, blank) in
    let digit : is_ascii_digit byte ≡ false = grind (arith, nat_tests, blank) in
    rw (minus, plus, digit) refl

number_not_blank : (text : List ℕ) → 0 < number_len text → starts_blank text ≡ false
number_not_blank [] some = refl
number_not_blank (byte ∷ rest) some = by_test (is_blank byte) refl
  where
    by_test : (test : Bool) → is_blank byte ≡ test → is_blank byte ≡ false
    by_test true e = absurd (omega (arith, some, blank_byte byte rest e))
    by_test false e = e

number_again : (before : List Token) (text rest : List ℕ) → is_number text ≡ true → goes_on_number rest ≡ false → tokens_from before 0 (text ++ rest) ≡ tokens_from (before ++ tokens.Number text ∷ []) 0 rest
number_again before text rest is past =
    let parts = number_parts text is in
    let size = number_back text rest (number_form text is) past in
    token_again before text rest (tokens.Number text) parts.0 (number_not_blank text (omega (arith, parts.0, parts.1)))
    (at_number (text ++ rest) (length text) size parts.0 ∙ rw (take-append_seam text rest) refl)

-- Reserved words.

word_spelled : (word : Word) → reserved (word_text word) ≡ Some word
unfolding reserved
word_spelled words.True = refl
word_spelled words.And = refl
word_spelled words.Or = refl
word_spelled words.In = refl
word_spelled words.Where = refl
word_spelled words.Group = refl
word_spelled words.By = refl
word_spelled words.Count = refl
word_spelled words.Sum = refl
word_spelled words.Min = refl
word_spelled words.Max = refl
word_spelled words.Avg = refl
word_spelled words.Outside = refl
word_spelled words.Quantile = refl

word_letters : (word : Word) → (begins_as_word (word_text word) ≡ true) × (list_all is_word_byte (word_text word) ≡ true)
word_letters words.True = (refl, refl)
word_letters words.And = (refl, refl)
word_letters words.Or = (refl, refl)
word_letters words.In = (refl, refl)
word_letters words.Where = (refl, refl)
word_letters words.Group = (refl, refl)
word_letters words.By = (refl, refl)
word_letters words.Count = (refl, refl)
word_letters words.Sum = (refl, refl)
word_letters words.Min = (refl, refl)
word_letters words.Max = (refl, refl)
word_letters words.Avg = (refl, refl)
word_letters words.Outside = (refl, refl)
word_letters words.Quantile = (refl, refl)

word_found : (word : Word) → word_token (word_text word) ≡ Ok (tokens.Reserved word, length (word_text word))
unfolding word_token
word_found word = rw (word_spelled word) refl

-- Symbols.

no_number_symbol : (byte : ℕ) (rest : List ℕ) → is_word_byte byte ≡ false → ((byte == 45) || (byte == 43)) ≡ false → number_len (byte ∷ rest) ≡ 0
unfolding number_len unsigned_len digits_len
no_number_symbol byte rest no_word no_sign =
    let digit : is_ascii_digit byte ≡ false = grind (arith, nat_tests, no_word) in
    rw (no_sign, digit) refl

no_word_symbol : (byte : ℕ) (rest : List ℕ) → begins_as_word (byte ∷ rest) ≡ false → word_len (byte ∷ rest) ≡ 0
unfolding word_len
no_word_symbol byte rest no_word = rw no_word refl

symbol_at : (byte : ℕ) (rest : List ℕ) → is_word_byte byte ≡ false → begins_as_word (byte ∷ rest) ≡ false → ((byte == 45) || (byte == 43)) ≡ false → (byte == 34) ≡ false → token_at (byte ∷ rest) ≡ symbol_token byte (get_or rest 0 0)
symbol_at byte rest no_byte no_word no_sign no_quote =
    at_other (byte ∷ rest) (no_number_symbol byte rest no_byte no_sign) (no_word_symbol byte rest no_word) ∙ rw no_quote refl

next_not : (rest : List ℕ) → goes_on_symbol rest ≡ false → ((get_or rest 0 0 == 61) ≡ false) × ((get_or rest 0 0 == 62) ≡ false)
next_not [] e = (refl, refl)
next_not (byte ∷ rest) e = or_parts (byte == 61) (byte == 62) e

equal_is : (next : ℕ) → (next == 62) ≡ false → symbol_token 61 next ≡ Ok (tokens.Symbol symbols.Equal, 1)
unfolding symbol_token
equal_is next e = rw e refl

above_is : (next : ℕ) → (next == 61) ≡ false → symbol_token 62 next ≡ Ok (tokens.Symbol symbols.Above, 1)
unfolding symbol_token
above_is next e = rw e refl

below_is : (next : ℕ) → (next == 61) ≡ false → symbol_token 60 next ≡ Ok (tokens.Symbol symbols.Below, 1)
unfolding symbol_token
below_is next e = rw e refl

symbol_found : (which : Symbol) (rest : List ℕ) → (is_open (tokens.Symbol which) ≡ false → StandsApart rest) → token_at (symbol_text which ++ rest) ≡ Ok (tokens.Symbol which, length (symbol_text which))
unfolding symbol_token
symbol_found symbols.Colon rest past = symbol_at 58 rest refl refl refl refl
symbol_found symbols.Arrow rest past = symbol_at 61 (62 ∷ rest) refl refl refl refl
symbol_found symbols.Comma rest past = symbol_at 44 rest refl refl refl refl
symbol_found symbols.Dots rest past = symbol_at 46 (46 ∷ rest) refl refl refl refl
symbol_found symbols.Equal rest past = symbol_at 61 rest refl refl refl refl ∙ equal_is (get_or rest 0 0) (next_not rest (past refl).symbol).1
symbol_found symbols.AtLeast rest past = symbol_at 62 (61 ∷ rest) refl refl refl refl
symbol_found symbols.AtMost rest past = symbol_at 60 (61 ∷ rest) refl refl refl refl
symbol_found symbols.Above rest past = symbol_at 62 rest refl refl refl refl ∙ above_is (get_or rest 0 0) (next_not rest (past refl).symbol).0
symbol_found symbols.Below rest past = symbol_at 60 rest refl refl refl refl ∙ below_is (get_or rest 0 0) (next_not rest (past refl).symbol).0
symbol_found symbols.OpenSet rest past = symbol_at 123 rest refl refl refl refl
symbol_found symbols.CloseSet rest past = symbol_at 125 rest refl refl refl refl
symbol_found symbols.OpenGroup rest past = symbol_at 40 rest refl refl refl refl
symbol_found symbols.CloseGroup rest past = symbol_at 41 rest refl refl refl refl
symbol_found symbols.Star rest past = symbol_at 42 rest refl refl refl refl

symbol_shape : (which : Symbol) → (0 < length (symbol_text which)) × (starts_blank (symbol_text which) ≡ false)
symbol_shape symbols.Colon = (omega arith, refl)
symbol_shape symbols.Arrow = (omega arith, refl)
symbol_shape symbols.Comma = (omega arith, refl)
symbol_shape symbols.Dots = (omega arith, refl)
symbol_shape symbols.Equal = (omega arith, refl)
symbol_shape symbols.AtLeast = (omega arith, refl)
symbol_shape symbols.AtMost = (omega arith, refl)
symbol_shape symbols.Above = (omega arith, refl)
symbol_shape symbols.Below = (omega arith, refl)
symbol_shape symbols.OpenSet = (omega arith, refl)
symbol_shape symbols.CloseSet = (omega arith, refl)
symbol_shape symbols.OpenGroup = (omega arith, refl)
symbol_shape symbols.CloseGroup = (omega arith, refl)
symbol_shape symbols.Star = (omega arith, refl)

symbol_again : (before : List Token) (which : Symbol) (rest : List ℕ) → (is_open (tokens.Symbol which) ≡ false → StandsApart rest) → tokens_from before 0 (symbol_text which ++ rest) ≡ tokens_from (before ++ tokens.Symbol which ∷ []) 0 rest
symbol_again before which rest past =
    let shape = symbol_shape which in
    token_again before (symbol_text which) rest (tokens.Symbol which) shape.0 shape.1 (symbol_found which rest past)

-- One token, and then a list of them.

one_again : (before : List Token) (token : Token) (rest : List ℕ) → is_spelled token ≡ true → (is_open token ≡ false → StandsApart rest) → tokens_from before 0 (token_text token ++ rest) ≡ tokens_from (before ++ token ∷ []) 0 rest
unfolding token_text
one_again before (tokens.Symbol which) rest is past = symbol_again before which rest past
one_again before (tokens.Reserved word) rest is past = word_again before (word_text word) rest (tokens.Reserved word) (word_letters word) (word_found word) (past refl).name
one_again before (tokens.Number text) rest is past = number_again before text rest is (past refl).number
one_again before (tokens.Name name) rest is past = names_read_back before name rest is (past refl).name

close_apart : (next : Token) (rest : List ℕ) → is_close next ≡ true → goes_on (token_text next ++ rest) ≡ false
unfolding token_text digits_len
close_apart (tokens.Symbol symbols.Colon) rest e = refl
close_apart (tokens.Symbol symbols.Comma) rest e = refl
close_apart (tokens.Symbol symbols.Dots) rest e = refl
close_apart (tokens.Symbol symbols.CloseSet) rest e = refl
close_apart (tokens.Symbol symbols.OpenGroup) rest e = refl
close_apart (tokens.Symbol symbols.CloseGroup) rest e = refl
close_apart (tokens.Symbol symbols.Arrow) rest e = absurd (false≢true e)
close_apart (tokens.Symbol symbols.Equal) rest e = absurd (false≢true e)
close_apart (tokens.Symbol symbols.AtLeast) rest e = absurd (false≢true e)
close_apart (tokens.Symbol symbols.AtMost) rest e = absurd (false≢true e)
close_apart (tokens.Symbol symbols.Above) rest e = absurd (false≢true e)
close_apart (tokens.Symbol symbols.Below) rest e = absurd (false≢true e)
close_apart (tokens.Symbol symbols.OpenSet) rest e = absurd (false≢true e)
close_apart (tokens.Symbol symbols.Star) rest e = absurd (false≢true e)
close_apart (tokens.Reserved word) rest e = absurd (false≢true e)
close_apart (tokens.Number text) rest e = absurd (false≢true e)
close_apart (tokens.Name name) rest e = absurd (false≢true e)

pub after_nil : (last : Token) → texts_after last [] ≡ []
unfolding texts_after
after_nil last = refl

pub after_cons : (last next : Token) (rest : List Token) → texts_after last (next ∷ rest) ≡ gap last next ++ (token_text next ++ texts_after next rest)
unfolding texts_after next_text
after_cons last next rest = append_assoc (gap last next) (token_text next) (texts_after next rest)

-- what follows a token that nothing stands close to does not go on with it
after_apart : (last : Token) (list : List Token) → is_open last ≡ false → goes_on (texts_after last list) ≡ false
after_apart last [] joins = rw (after_nil last) refl
after_apart last (next ∷ rest) joins = by_test (is_close next) refl
  where
    by_test : (test : Bool) → is_close next ≡ test → goes_on (texts_after last (next ∷ rest)) ≡ false
    by_test true e = rw (after_cons last next rest, joins, e) (close_apart next (texts_after next rest) e)
    by_test false e = rw (after_cons last next rest, joins, e) refl

space_taken : (before : List Token) (text : List ℕ) → tokens_from before 0 (32 ∷ text) ≡ tokens_from before 0 text
unfolding tokens_from
space_taken before text = refl

gap_taken : (before : List Token) (last next : Token) (text : List ℕ) → tokens_from before 0 (gap last next ++ text) ≡ tokens_from before 0 text
gap_taken before last next text = by_test (is_open last || is_close next) refl
  where
    by_test : (test : Bool) → (is_open last || is_close next) ≡ test → tokens_from before 0 (gap last next ++ text) ≡ tokens_from before 0 text
    by_test true e = rw e refl
    by_test false e = rw e (space_taken before text)

all_taken : (before : List Token) → tokens_from before 0 [] ≡ Ok before
unfolding tokens_from
all_taken before = refl

rest_again : (before : List Token) (last : Token) (list : List Token) → list_all is_spelled list ≡ true → tokens_from before 0 (texts_after last list) ≡ Ok (before ++ list)
rest_again before last [] are = rw (after_nil last, append-nil before) (all_taken before)
rest_again before last (next ∷ rest) are =
    let parts = and_parts (is_spelled next) (list_all is_spelled rest) are in
    rw (after_cons last next rest)
    (gap_taken before last next (token_text next ++ texts_after next rest)
    ∙ one_again before next (texts_after next rest) parts.0 (λ joins. apart (texts_after next rest) (after_apart next rest joins))
    ∙ rest_again (before ++ next ∷ []) next rest parts.1
    ∙ rw (append_assoc before (next ∷ []) rest) refl)

all_again : (list : List Token) → list_all is_spelled list ≡ true → tokens_of (tokens_text list) ≡ Ok list
unfolding tokens_text
all_again [] are = all_taken []
all_again (first ∷ rest) are =
    let parts = and_parts (is_spelled first) (list_all is_spelled rest) are in
    one_again [] first (texts_after first rest) parts.0 (λ joins. apart (texts_after first rest) (after_apart first rest joins))
    ∙ rest_again (first ∷ []) first rest parts.1

pub all_spelled : (list : List Token) → are_spelled list ≡ true → list_all is_spelled list ≡ true
unfolding are_spelled
all_spelled list are = are

pub tokens_read_back : (list : List Token) → are_spelled list ≡ true → tokens_of (tokens_text list) ≡ Ok list
tokens_read_back list are = all_again list (all_spelled list are)
