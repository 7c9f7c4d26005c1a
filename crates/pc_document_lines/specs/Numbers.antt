-- The number that a text is written for.
use Rattle.std.specs.Prelude.{ℕ, ◌+◌, ◌-◌, ◌*◌, ◌^◌, ℤ, pos, Bool, List, [], ◌∷◌, unsigned_abs, nat_lt, nat_le, int_le, if◌then◌else◌}
use Rattle.std.specs.Char.{is_ascii_digit}
use Rattle.pc_num.specs.Put.{scaled_text}
use Rattle.pc_num.specs.Scaled.{signed, starts_with_minus}

-- the number of the digits of a text after one that stands before them, whatever else is between them
unfoldable pub digits_value : ℕ → List ℕ → ℕ
digits_value n [] = n
digits_value n (byte ∷ rest) = if is_ascii_digit byte then digits_value (10 * n + (byte - 48)) rest else digits_value n rest

-- the only number whose text this can be, at whatever scale it is written
unfoldable pub likely_number : List ℕ → ℤ
likely_number text = signed (starts_with_minus text) (digits_value 0 text)

abbrev pub whole_text : ℤ → List ℕ
whole_text number = scaled_text number 0

abbrev pub count_text : ℕ → List ℕ
count_text n = whole_text (pos n)

abbrev pub likely_count : List ℕ → ℕ
likely_count text = unsigned_abs (likely_number text)

-- a number that fits, as a test
abbrev pub is_fit : ℤ → Bool
is_fit number = nat_lt (unsigned_abs number) (2 ^ 127)

-- a number of at most this size
abbrev pub is_within : ℕ → ℤ → Bool
is_within most number = nat_le (unsigned_abs number) most

abbrev pub is_positive : ℤ → Bool
is_positive number = int_le (pos 1) number
