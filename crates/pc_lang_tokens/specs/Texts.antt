-- How tokens are written one after another.
use Rattle.std.specs.Prelude.{ℕ, ◌==◌, ◌&&◌, ◌||◌, Bool, true, false, List, [], ◌∷◌, ◌++◌, length, codes, nat_lt, if◌then◌else◌}
use Rattle.std.specs.List.{list_all}
use Rattle.pc_model.specs.Texts.{is_name}
use Rattle.pc_lang_tokens.specs.declared.token.Symbol.{Symbol}
use Rattle.pc_lang_tokens.specs.declared.token.Symbol.TheVariants as symbols
use Rattle.pc_lang_tokens.specs.declared.token.Word.{Word}
use Rattle.pc_lang_tokens.specs.declared.token.Word.TheVariants as words
use Rattle.pc_lang_tokens.specs.declared.token.Token.{Token}
use Rattle.pc_lang_tokens.specs.declared.token.Token.TheVariants as tokens
use Rattle.pc_lang_tokens.specs.Lexing.{number_len}
use Rattle.pc_lang_tokens.specs.Spelling.{name_text}

abbrev pub symbol_text : Symbol → List ℕ
symbol_text symbols.Colon = codes ":"
symbol_text symbols.Arrow = codes "=>"
symbol_text symbols.Comma = codes ","
symbol_text symbols.Dots = codes ".."
symbol_text symbols.Equal = codes "="
symbol_text symbols.AtLeast = codes ">="
symbol_text symbols.AtMost = codes "<="
symbol_text symbols.Above = codes ">"
symbol_text symbols.Below = codes "<"
symbol_text symbols.OpenSet = codes "{"
symbol_text symbols.CloseSet = codes "}"
symbol_text symbols.OpenGroup = codes "("
symbol_text symbols.CloseGroup = codes ")"
symbol_text symbols.Star = codes "*"

abbrev pub word_text : Word → List ℕ
word_text words.True = codes "true"
word_text words.And = codes "and"
word_text words.Or = codes "or"
word_text words.In = codes "in"
word_text words.Where = codes "where"
word_text words.Group = codes "group"
word_text words.By = codes "by"
word_text words.Count = codes "count"
word_text words.Sum = codes "sum"
word_text words.Min = codes "min"
word_text words.Max = codes "max"
word_text words.Avg = codes "avg"
word_text words.Outside = codes "outside"
word_text words.Quantile = codes "quantile"

unfoldable pub token_text : Token → List ℕ
token_text (tokens.Symbol which) = symbol_text which
token_text (tokens.Reserved word) = word_text word
token_text (tokens.Number text) = text
token_text (tokens.Name name) = name_text name

-- what follows stands close to it
abbrev pub is_open : Token → Bool
is_open (tokens.Symbol symbols.Dots) = true
is_open (tokens.Symbol symbols.OpenSet) = true
is_open (tokens.Symbol symbols.OpenGroup) = true
is_open other = false

-- it stands close to what comes before
abbrev pub is_close : Token → Bool
is_close (tokens.Symbol symbols.Colon) = true
is_close (tokens.Symbol symbols.Comma) = true
is_close (tokens.Symbol symbols.Dots) = true
is_close (tokens.Symbol symbols.CloseSet) = true
is_close (tokens.Symbol symbols.OpenGroup) = true
is_close (tokens.Symbol symbols.CloseGroup) = true
is_close other = false

-- a space between two tokens that do not stand close
abbrev pub gap : Token → Token → List ℕ
gap last next = if is_open last || is_close next then [] else 32 ∷ []

-- a token after another
unfoldable pub next_text : Token → Token → List ℕ
next_text last next = gap last next ++ token_text next

-- the tokens after the one that is written last
unfoldable pub texts_after : Token → List Token → List ℕ
texts_after last [] = []
texts_after last (next ∷ rest) = next_text last next ++ texts_after next rest

unfoldable pub tokens_text : List Token → List ℕ
tokens_text [] = []
tokens_text (first ∷ rest) = token_text first ++ texts_after first rest

-- all of the bytes are one number
unfoldable pub is_number : List ℕ → Bool
is_number text = nat_lt 0 (length text) && (number_len text == length text)

-- the bytes or the name of the token are those of a number or a name
abbrev pub is_spelled : Token → Bool
is_spelled (tokens.Symbol which) = true
is_spelled (tokens.Reserved word) = true
is_spelled (tokens.Number text) = is_number text
is_spelled (tokens.Name name) = is_name name

unfoldable pub are_spelled : List Token → Bool
are_spelled tokens = list_all is_spelled tokens
