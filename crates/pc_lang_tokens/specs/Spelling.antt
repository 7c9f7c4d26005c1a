-- How names are written in the text of the language.
use Rattle.std.specs.Prelude.{ℕ, ◌==◌, ◌&&◌, ◌||◌, not, Bool, false, List, [], ◌∷◌, ◌++◌, length, codes, bytes_eq, nat_le, Option, Some, None, is_some, if◌then◌else◌}
use Rattle.std.specs.List.{list_all}
use Rattle.std.specs.Char.{is_ascii_digit}
use Rattle.pc_lang_tokens.specs.declared.token.Word.{Word}
use Rattle.pc_lang_tokens.specs.declared.token.Word.TheVariants as words

-- a letter or a low line
abbrev pub starts_word : ℕ → Bool
starts_word byte = (nat_le 65 byte && nat_le byte 90) || (nat_le 97 byte && nat_le byte 122) || (byte == 95)

abbrev pub is_word_byte : ℕ → Bool
is_word_byte byte = starts_word byte || is_ascii_digit byte

abbrev pub begins_as_word : List ℕ → Bool
begins_as_word [] = false
begins_as_word (byte ∷ rest) = starts_word byte

-- from 1 to 64 letters, digits and low lines, and no digit first
unfoldable pub is_word : List ℕ → Bool
is_word text = begins_as_word text && list_all is_word_byte text && nat_le (length text) 64

-- the reserved word that the bytes are
unfoldable pub reserved : List ℕ → Option Word
reserved text =
    if bytes_eq text (codes "true") then Some words.True
    else if bytes_eq text (codes "and") then Some words.And
    else if bytes_eq text (codes "or") then Some words.Or
    else if bytes_eq text (codes "in") then Some words.In
    else if bytes_eq text (codes "where") then Some words.Where
    else if bytes_eq text (codes "group") then Some words.Group
    else if bytes_eq text (codes "by") then Some words.By
    else if bytes_eq text (codes "count") then Some words.Count
    else if bytes_eq text (codes "sum") then Some words.Sum
    else if bytes_eq text (codes "min") then Some words.Min
    else if bytes_eq text (codes "max") then Some words.Max
    else if bytes_eq text (codes "avg") then Some words.Avg
    else if bytes_eq text (codes "outside") then Some words.Outside
    else if bytes_eq text (codes "quantile") then Some words.Quantile
    else None

unfoldable pub is_reserved : List ℕ → Bool
is_reserved text = is_some (reserved text)

-- a word that is not reserved
unfoldable pub is_bare : List ℕ → Bool
is_bare text = is_word text && not (is_reserved text)

unfoldable pub byte_text : ℕ → List ℕ
byte_text byte = if byte == 34 then 34 ∷ 34 ∷ [] else byte ∷ []

-- each quote twice
unfoldable pub doubled : List ℕ → List ℕ
doubled [] = []
doubled (byte ∷ rest) = byte_text byte ++ doubled rest

-- a name, between quotes where it is not bare
unfoldable pub name_text : List ℕ → List ℕ
name_text name = if is_bare name then name else (34 ∷ []) ++ doubled name ++ (34 ∷ [])
