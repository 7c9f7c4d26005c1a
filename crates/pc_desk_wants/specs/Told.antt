-- What is told of a text: where reading stops, and what may stand there.
use Rattle.std.specs.Prelude.{◌≡◌, ◌⊎◌, ℕ, ◌+◌, ◌==◌, List, [], ◌∷◌, length, codes, decimal, take, drop, get_or, nat_lt, if◌then◌else◌}
use Rattle.std.specs.List.{concat}
use Rattle.pc_lang_tokens.specs.declared.tokens.Tokens.{Tokens}
use Rattle.pc_lang_tokens.specs.Places.{AreTokens, BeginsNone}
use Rattle.pc_lang_tokens.specs.Spelling.{starts_word}
use Rattle.pc_lang_tokens.specs.Texts.{tokens_text}
use Rattle.pc_lang_grammar.specs.declared.halt.Halt.{Halt}
use Rattle.pc_lang_grammar.specs.declared.want.Want.{Want}
use Rattle.pc_lang_grammar.specs.Halts.{halt_of}
use Rattle.pc_desk_wants.specs.Shown.{chars_in, first_char, shown}
use Rattle.pc_desk_wants.specs.Wanted.{wanted_text}

abbrev pub line_break : List ℕ
line_break = 10 ∷ []

-- the column of a place of a text, in characters from 1 on, in the line that the front and the text are
abbrev pub column_of : List ℕ → List ℕ → ℕ → ℕ
column_of front text place = chars_in front + chars_in (take place text) + 1

abbrev pub place_text : ℕ → List ℕ
place_text column = concat (codes "    at column " ∷ decimal column ∷ codes ", " ∷ [])

-- a column, what stands there, and what is said of it
unfoldable pub at_text : ℕ → List ℕ → List ℕ → List ℕ
at_text column what words = concat (place_text column ∷ shown what ∷ codes ": " ∷ words ∷ line_break ∷ [])

-- why no token begins with this byte
abbrev pub none_words : List ℕ → List ℕ
none_words [] = codes "no sign, name or number begins there"
none_words (byte ∷ rest) =
    if byte == 34 then codes "a name in quotes has 1 to 64 bytes and no control characters, and ends with a quote"
    else (if starts_word byte then codes "a name has at most 64 bytes" else codes "no sign, name or number begins there")

-- a place at which no token begins
unfoldable pub none_text : List ℕ → List ℕ → ℕ → List ℕ
none_text front text place = at_text (column_of front text place) (first_char (drop place text)) (none_words (drop place text))

-- that one of these may stand there
unfoldable pub words_text : List ℕ → List ℕ
words_text words = concat (words ∷ codes " may stand there" ∷ [])

-- .. at the end
unfoldable pub end_words : List ℕ → List ℕ
end_words words = concat (codes "    at the end: " ∷ words_text words ∷ line_break ∷ [])

-- the token at which reading stops, or the end
unfoldable pub halt_text : List ℕ → List ℕ → Tokens → Halt → List ℕ
halt_text front text tokens halt =
    if nat_lt halt.place (length tokens.list)
    then at_text (column_of front text (get_or tokens.places halt.place 0)) (tokens_text (take 1 (drop halt.place tokens.list))) (words_text (wanted_text halt.want))
    else end_words (wanted_text halt.want)

-- what is told of a text behind a front of its line, where this is wanted first
abbrev pub IsTold : List ℕ → List ℕ → Want → List ℕ → Type 0
IsTold front text start told =
    ((tokens : Tokens) × AreTokens text tokens × (told ≡ halt_text front text tokens (halt_of start tokens.list)))
    ⊎ ((place : ℕ) × BeginsNone text place × (told ≡ none_text front text place))

-- what is told of a word behind a front of its line, which is empty at the end, where one of these may stand
unfoldable pub word_told : List ℕ → List ℕ → List ℕ → List ℕ
word_told front word words = if length word == 0 then end_words words else at_text (column_of front [] 0) word (words_text words)
