-- How text stands in XML.
use Rattle.std.specs.Prelude.{ℕ, ◌==◌, ◌&&◌, ◌||◌, not, nat_lt, Bool, List, [], ◌∷◌, ◌++◌, codes, if◌then◌else◌}

-- U+FFFD, which stands for characters that XML does not allow
abbrev pub replacement : List ℕ
replacement = 239 ∷ 191 ∷ 189 ∷ []

-- a tab, a line feed and a carriage return are allowed
abbrev pub is_control : ℕ → Bool
is_control byte = nat_lt byte 32 && not ((byte == 9) || ((byte == 10) || (byte == 13)))

abbrev pub escaped_other : ℕ → List ℕ
escaped_other byte = if is_control byte then replacement else byte ∷ []

abbrev pub escaped_one : ℕ → List ℕ
escaped_one byte =
    if byte == 38 then codes "&amp;"
    else if byte == 60 then codes "&lt;"
    else if byte == 62 then codes "&gt;"
    else if byte == 34 then codes "&quot;"
    else if byte == 39 then codes "&apos;"
    else escaped_other byte

-- U+FFFE and U+FFFF are the bytes 239, 191 and then 190 or 191
abbrev pub ends_noncharacter : ℕ → ℕ → ℕ → Bool
ends_noncharacter first second byte = (first == 239) && ((second == 191) && ((byte == 190) || (byte == 191)))

-- a byte of a text in UTF-8, after these two; of U+FFFE the last byte alone is another one than that of U+FFFD
abbrev pub escaped_byte : ℕ → ℕ → ℕ → List ℕ
escaped_byte first second byte = if ends_noncharacter first second byte then 189 ∷ [] else escaped_one byte

-- .. and a text after them
unfoldable pub escaped_after : ℕ → ℕ → List ℕ → List ℕ
escaped_after first second [] = []
escaped_after first second (byte ∷ rest) = escaped_byte first second byte ++ escaped_after second byte rest

-- a text in UTF-8
abbrev pub escaped : List ℕ → List ℕ
escaped text = escaped_after 0 0 text
