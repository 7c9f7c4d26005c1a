-- What it is that a text spells a number.
use Rattle.std.specs.Prelude.{◌≡◌, ℕ, ◌*◌, ◌^◌, ◌≤◌, ◌<◌, ℤ, List, [], ◌∷◌, ◌++◌, length, All, unsigned_abs}
use Rattle.pc_num.specs.Scaled.{number_after, signed, starts_with_minus, without_sign}

abbrev pub IsDigit : ℕ → Type 0
IsDigit byte = (48 ≤ byte) × (byte ≤ 57)

-- nothing, or a point and the decimals
abbrev pub point_text : List ℕ → List ℕ
point_text [] = []
point_text (digit ∷ digits) = 46 ∷ digit ∷ digits

-- The text, but for a sign, is one digit or more, and maybe a point and digits after it. The number, in units of the last
-- of so many decimals as the scale says, is the text's exactly.
pub record Spells (text : List ℕ) (scale : ℕ) (number : ℤ) : Type 0 where
  pub whole : List ℕ
  pub decimals : List ℕ
  pub form : without_sign text ≡ whole ++ point_text decimals
  pub not_empty : 0 < length whole
  pub whole_digits : All IsDigit whole
  pub decimal_digits : All IsDigit decimals
  pub value : unsigned_abs number * 10 ^ length decimals ≡ number_after 0 (whole ++ decimals) * 10 ^ scale
  pub sign : number ≡ signed (starts_with_minus text) (unsigned_abs number)
