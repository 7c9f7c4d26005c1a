-- Numbers of 64 bits as they are passed, read and made wider.
use Rattle.std.proofs.Common.{◌≡◌, ◌<◌, ◌^◌, ℤ, to_z, of_z}
use Rattle.std.specs.Prelude.{nat_abs}
use Rattle.std.specs.Int.{w64}
use Rattle.std.proofs.lemmas.Int.{to_z-of_z, fits_signed_from_abs}

-- a number that fits 64 bits
abbrev pub FitsWord : ℤ → Type 0
FitsWord z = nat_abs z < 2 ^ 63

pub passed_word : (a : ℤ) → FitsWord a → to_z w64 (of_z w64 a) ≡ a
passed_word a h = to_z-of_z w64 a (fits_signed_from_abs w64 a h)
