-- Which number a decimal text spells, in units of its last place.
use Rattle.std.specs.Prelude.{ℕ, zero, suc, ◌≡◌, ◌≤◌, ◌+◌, ◌-◌, ◌*◌, ◌^◌, ◌==◌, ◌&&◌, ◌||◌, not, ℤ, pos, neg_ℤ, Bool, true, false, List, [], ◌∷◌, ◌++◌, take, drop, length, Option, Some, None, Result, Ok, Err, nat_lt, if◌then◌else◌}
use Rattle.std.specs.List.{list_any}
use Rattle.std.specs.Char.{is_ascii_digit}
use Rattle.pc_num.specs.declared.scaled.NumFault.{NumFault}
use Rattle.pc_num.specs.declared.scaled.NumFault.TheVariants.{NotANumber, TooManyDecimals, PastLimit}

-- the greatest size of a scaled number
abbrev pub greatest_size : ℕ
greatest_size = 10 ^ 15

-- how many digits a text begins with
unfoldable pub digits_len : List ℕ → ℕ
digits_len [] = 0
digits_len (byte ∷ rest) = if is_ascii_digit byte then digits_len rest + 1 else 0

-- one digit or more, and nothing else
unfoldable pub are_digits : List ℕ → Bool
are_digits text = nat_lt 0 (digits_len text) && (digits_len text == length text)

abbrev pub starts_with_minus : List ℕ → Bool
starts_with_minus [] = false
starts_with_minus (byte ∷ rest) = byte == 45

-- the text after a sign
abbrev pub without_sign : List ℕ → List ℕ
without_sign [] = []
without_sign (byte ∷ rest) = if (byte == 45) || (byte == 43) then rest else byte ∷ rest

-- the digits after the point, where what follows the whole part is nothing or a point with digits
abbrev pub decimals_at : List ℕ → Option (List ℕ)
decimals_at [] = Some []
decimals_at (byte ∷ rest) = if (byte == 46) && are_digits rest then Some rest else None

-- what follows a point
abbrev pub after_point : List ℕ → Option (List ℕ)
after_point [] = None
after_point (byte ∷ rest) = if byte == 46 then Some rest else None

-- is a decimal past the scale not 0?
abbrev pub has_decimals_past : ℕ → List ℕ → Bool
has_decimals_past scale decimals = list_any (λ digit. not (digit == 48)) (drop scale decimals)

-- the number of these digits, after a number that stands before them
unfoldable pub number_after : ℕ → List ℕ → ℕ
number_after n [] = n
number_after n (digit ∷ digits) = number_after (10 * n + (digit - 48)) digits

-- so many decimals, with a 0 for each that is missing
unfoldable pub padded : ℕ → List ℕ → List ℕ
padded zero decimals = []
padded (suc k) [] = 48 ∷ padded k []
padded (suc k) (digit ∷ digits) = digit ∷ padded k digits

-- the number in units of its last place
unfoldable pub scaled_size : List ℕ → List ℕ → ℕ → ℕ
scaled_size whole decimals scale = number_after 0 (whole ++ padded scale decimals)

abbrev pub signed : Bool → ℕ → ℤ
signed true size = neg_ℤ (pos size)
signed false size = pos size

-- the number of a whole part and its decimals, or its first fault
abbrev pub scaled_parts : ℕ → Bool → List ℕ → Option (List ℕ) → Result ℤ NumFault
scaled_parts scale minus whole None = Err NotANumber
scaled_parts scale minus whole (Some decimals) =
    if has_decimals_past scale decimals then Err TooManyDecimals
    else if nat_lt greatest_size (scaled_size whole decimals scale) then Err PastLimit
    else Ok (signed minus (scaled_size whole decimals scale))

-- the number of a text without its sign, or its first fault
abbrev pub scaled_unsigned : ℕ → Bool → List ℕ → Result ℤ NumFault
scaled_unsigned scale minus number =
    if digits_len number == 0 then Err NotANumber
    else scaled_parts scale minus (take (digits_len number) number) (decimals_at (drop (digits_len number) number))

-- the number that the text spells at a scale, or its first fault
unfoldable pub scaled_of : ℕ → List ℕ → Result ℤ NumFault
scaled_of scale text = scaled_unsigned scale (starts_with_minus text) (without_sign text)

-- a size that is the whole answer, unless it passes the limit
abbrev pub scaled_plainly : ℕ → List ℕ → ℕ → Type 0
scaled_plainly scale number size =
    size ≤ greatest_size → (minus : Bool) → scaled_unsigned scale minus number ≡ Ok (signed minus size)
