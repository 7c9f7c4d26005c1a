-- The tokens of a line: the longest one at each place, between blanks or with nothing between them.
use Rattle.std.specs.Prelude.{ℕ, zero, suc, ◌+◌, ◌-◌, ◌==◌, ◌&&◌, ◌||◌, Bool, true, false, List, [], ◌∷◌, ◌++◌, length, take, drop, get_or, Option, Some, None, Result, Ok, Err, nat_lt, if◌then◌else◌}
use Rattle.std.specs.Char.{is_ascii_digit}
use Rattle.pc_num.specs.Scaled.{digits_len}
use Rattle.pc_model.specs.declared.fault.Reason.{Reason}
use Rattle.pc_model.specs.declared.fault.Reason.TheVariants as reasons
use Rattle.pc_model.specs.Refusals.{◌>>=◌}
use Rattle.pc_model.specs.Texts.{is_name}
use Rattle.pc_lang_tokens.specs.declared.token.Symbol.{Symbol}
use Rattle.pc_lang_tokens.specs.declared.token.Symbol.TheVariants as symbols
use Rattle.pc_lang_tokens.specs.declared.token.Word.{Word}
use Rattle.pc_lang_tokens.specs.declared.token.Token.{Token}
use Rattle.pc_lang_tokens.specs.declared.token.Token.TheVariants as tokens
use Rattle.pc_lang_tokens.specs.Spelling.{is_word_byte, begins_as_word, is_word, reserved}

-- a space or a tab
abbrev pub is_blank : ℕ → Bool
is_blank byte = (byte == 32) || (byte == 9)

abbrev pub starts_blank : List ℕ → Bool
starts_blank [] = false
starts_blank (byte ∷ rest) = is_blank byte

-- how many bytes a sign takes
abbrev pub sign_len : List ℕ → ℕ
sign_len [] = 0
sign_len (byte ∷ rest) = if (byte == 45) || (byte == 43) then 1 else 0

-- how many bytes a point takes with the digits after it
abbrev pub fraction_len : List ℕ → ℕ
fraction_len [] = 0
fraction_len (byte ∷ rest) = if (byte == 46) && nat_lt 0 (digits_len rest) then digits_len rest + 1 else 0

-- how many bytes a number takes after its sign
unfoldable pub unsigned_len : List ℕ → ℕ
unsigned_len text = if digits_len text == 0 then 0 else digits_len text + fraction_len (drop (digits_len text) text)

-- how many bytes of the text's front are a number
unfoldable pub number_len : List ℕ → ℕ
number_len text = if unsigned_len (drop (sign_len text) text) == 0 then 0 else sign_len text + unsigned_len (drop (sign_len text) text)

-- how many letters, digits and low lines the text begins with
unfoldable pub letters_len : List ℕ → ℕ
letters_len [] = 0
letters_len (byte ∷ rest) = if is_word_byte byte then letters_len rest + 1 else 0

-- how many bytes of the text's front are a word
unfoldable pub word_len : List ℕ → ℕ
word_len text = if begins_as_word text then letters_len text else 0

-- what stands between quotes, after what is read of it, with the number of bytes up to the last quote; the first argument
-- says that the byte before is a quote that may be the last
unfoldable pub quoted_from : Bool → ℕ → List ℕ → List ℕ → Option (List ℕ × ℕ)
quoted_from false len name [] = None
quoted_from true len name [] = Some (name, len)
quoted_from false len name (byte ∷ rest) = if byte == 34 then quoted_from true (len + 1) name rest else quoted_from false (len + 1) (name ++ byte ∷ []) rest
quoted_from true len name (byte ∷ rest) = if byte == 34 then quoted_from false (len + 1) (name ++ 34 ∷ []) rest else Some (name, len)

-- a token and how many bytes it takes
abbrev pub Found : Type 0
Found = Result (Token × ℕ) Reason

abbrev pub word_from : List ℕ → Option Word → Found
word_from text (Some word) = Ok (tokens.Reserved word, length text)
word_from text None = if is_word text then Ok (tokens.Name text, length text) else Err reasons.BadToken

unfoldable pub word_token : List ℕ → Found
word_token text = word_from text (reserved text)

-- the token of what is read after a quote
abbrev pub quoted_token : Option (List ℕ × ℕ) → Found
quoted_token None = Err reasons.BadToken
quoted_token (Some found) = if is_name found.0 then Ok (tokens.Name found.0, found.1) else Err reasons.BadToken

abbrev pub symbol : Symbol → ℕ → Found
symbol which len = Ok (tokens.Symbol which, len)

-- a symbol, the longest one that the byte begins
unfoldable pub symbol_token : ℕ → ℕ → Found
symbol_token byte next =
    if byte == 58 then symbol symbols.Colon 1
    else if byte == 44 then symbol symbols.Comma 1
    else if byte == 123 then symbol symbols.OpenSet 1
    else if byte == 125 then symbol symbols.CloseSet 1
    else if byte == 40 then symbol symbols.OpenGroup 1
    else if byte == 41 then symbol symbols.CloseGroup 1
    else if byte == 42 then symbol symbols.Star 1
    else if byte == 61 then (if next == 62 then symbol symbols.Arrow 2 else symbol symbols.Equal 1)
    else if byte == 62 then (if next == 61 then symbol symbols.AtLeast 2 else symbol symbols.Above 1)
    else if byte == 60 then (if next == 61 then symbol symbols.AtMost 2 else symbol symbols.Below 1)
    else if (byte == 46) && (next == 46) then symbol symbols.Dots 2
    else Err reasons.BadToken

-- a token that is no number and no word
abbrev pub other_token : List ℕ → Found
other_token [] = Err reasons.BadToken
other_token (byte ∷ rest) = if byte == 34 then quoted_token (quoted_from false 1 [] rest) else symbol_token byte (get_or rest 0 0)

-- the longest token at the front of the text, and how many bytes it takes
unfoldable pub token_at : List ℕ → Found
token_at text =
    if nat_lt 0 (number_len text) then Ok (tokens.Number (take (number_len text) text), number_len text)
    else if nat_lt 0 (word_len text) then word_token (take (word_len text) text)
    else other_token text

-- the tokens of a text of which so many bytes are taken, after the tokens before them
unfoldable pub tokens_from : List Token → ℕ → List ℕ → Result (List Token) Reason
tokens_from before skip [] = Ok before
tokens_from before (suc skip) (byte ∷ rest) = tokens_from before skip rest
tokens_from before zero (byte ∷ rest) =
    if is_blank byte then tokens_from before 0 rest
    else (token_at (byte ∷ rest) >>= λ found. tokens_from (before ++ found.0 ∷ []) (found.1 - 1) rest)

-- all tokens of a line, or the fault of the first place at which none stands
abbrev pub tokens_of : List ℕ → Result (List Token) Reason
tokens_of text = tokens_from [] 0 text

-- would these bytes belong to a name that stands before them?
abbrev pub goes_on_name : List ℕ → Bool
goes_on_name [] = false
goes_on_name (byte ∷ rest) = is_word_byte byte || (byte == 34)

-- would these bytes belong to a number that stands before them?
abbrev pub goes_on_number : List ℕ → Bool
goes_on_number [] = false
goes_on_number (byte ∷ rest) = is_ascii_digit byte || ((byte == 46) && nat_lt 0 (digits_len rest))
