-- The text of a number in units of its last place.
use Rattle.std.specs.Prelude.{ℕ, zero, suc, ◌+◌, ◌/◌, ◌%◌, ◌^◌, ℤ, pos, negsuc, unsigned_abs, List, [], ◌∷◌, ◌++◌, decimal, if◌then◌else◌}
use Rattle.std.specs.Ordering.{int_eq}
use Rattle.pc_num.specs.declared.fraction.Frac.{Frac}

-- `-` before a number below 0
abbrev pub minus_text : ℤ → List ℕ
minus_text (pos n) = []
minus_text (negsuc n) = 45 ∷ []

-- the last so many digits of a number
unfoldable pub decimals_of : ℕ → ℕ → List ℕ
decimals_of zero n = []
decimals_of (suc k) n = (48 + n / 10 ^ k % 10) ∷ decimals_of k n

-- a point and the decimals, or nothing at a scale of 0
abbrev pub fraction_text : ℕ → ℕ → List ℕ
fraction_text zero n = []
fraction_text (suc k) n = 46 ∷ decimals_of (suc k) n

-- the number without its sign
abbrev pub size_text : ℕ → ℕ → List ℕ
size_text scale size = decimal (size / 10 ^ scale) ++ fraction_text scale size

-- the number with exactly so many decimals
unfoldable pub scaled_text : ℤ → ℕ → List ℕ
scaled_text value scale = minus_text value ++ size_text scale (unsigned_abs value)

-- the numerator, and a denominator that is not 1 after a slash
unfoldable pub frac_text : Frac → List ℕ
frac_text f = if int_eq f.den (pos 1) then scaled_text f.num 0 else scaled_text f.num 0 ++ 47 ∷ scaled_text f.den 0
