-- Sizes and signs of whole numbers.
use Rattle.std.specs.Prelude.{◌<◌, ◌^◌, ℤ, pos, negsuc, unsigned_abs, Bool, true, false}

-- a number from -(2^127 - 1) to 2^127 - 1
abbrev pub Fits : ℤ → Type 0
Fits number = unsigned_abs number < 2 ^ 127

-- one of the numbers is below 0 and the other is not
abbrev pub differ : ℤ → ℤ → Bool
differ (pos n) (pos d) = false
differ (pos n) (negsuc d) = true
differ (negsuc n) (pos d) = true
differ (negsuc n) (negsuc d) = false
