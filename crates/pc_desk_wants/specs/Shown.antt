-- What is shown of bytes of a file.
use Rattle.std.specs.Prelude.{ℕ, ◌+◌, ◌==◌, ◌||◌, Bool, List, [], ◌∷◌, ◌++◌, length, codes, take, drop, map, nat_lt, nat_le, if◌then◌else◌}
use Rattle.std.specs.List.{count_by, position_or_len}

-- does a character begin with the byte?
abbrev pub begins_char : ℕ → Bool
begins_char byte = nat_lt byte 128 || nat_le 192 byte

-- how many characters begin in the bytes
abbrev pub chars_in : List ℕ → ℕ
chars_in text = count_by begins_char text

-- a control character is shown as `?`
abbrev pub plain : ℕ → ℕ
plain byte = if nat_lt byte 32 || (byte == 127) then 63 else byte

-- how many bytes are shown: 200, and those that the last character has beyond
unfoldable pub cut_len : List ℕ → ℕ
cut_len text = if nat_le (length text) 200 then length text else 200 + position_or_len begins_char (drop 200 text)

unfoldable pub shown : List ℕ → List ℕ
shown text = map plain (take (cut_len text) text) ++ (if nat_lt (cut_len text) (length text) then codes " .." else [])

-- the character that the bytes begin with
abbrev pub first_char : List ℕ → List ℕ
first_char [] = []
first_char (byte ∷ rest) = take (position_or_len begins_char rest + 1) (byte ∷ rest)
