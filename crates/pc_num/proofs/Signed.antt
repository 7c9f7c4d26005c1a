-- Signed numbers and their sizes.
use Rattle.std.proofs.Common.{◌≡◌, ◌-ℤ◌, ℕ, zero, suc, ℤ, pos, negsuc, neg_ℤ, ◌<ℤ◌, ◌≤ℤ◌, Bool, true, false, unsigned_abs, to_z, of_z, arith, refl}
use Rattle.std.specs.Int.{IsGcd, w128}
use Rattle.std.specs.Int.Signed.{lt_z}
use Rattle.std.proofs.lemmas.Int.{ints, to_z-of_z, fits_signed_from_abs}
use Rattle.pc_num.specs.Scaled.{signed}
use Rattle.pc_num.specs.Signs.{Fits}

-- a number as it is passed
abbrev pub as_passed : ℤ → ℤ
as_passed z = to_z w128 (of_z w128 z)

pub passed : (a : ℤ) → Fits a → to_z w128 (of_z w128 a) ≡ a
passed a h = to_z-of_z w128 a (fits_signed_from_abs w128 a h)

pub unsigned_abs-signed : (minus : Bool) (size : ℕ) → unsigned_abs (signed minus size) ≡ size
unsigned_abs-signed true zero = refl
unsigned_abs-signed true (suc size) = refl
unsigned_abs-signed false size = refl

pub gcd_of_sizes : (a b : ℤ) (m n g : ℕ) → m ≡ unsigned_abs (to_z w128 (of_z w128 a)) → n ≡ unsigned_abs (to_z w128 (of_z w128 b)) → Fits a → Fits b → IsGcd m n g → IsGcd (unsigned_abs a) (unsigned_abs b) g
gcd_of_sizes a b m n g e f a_fits b_fits h = rw (← passed a a_fits, ← passed b b_fits, ← e, ← f) h

pub unsigned_abs-neg : (z : ℤ) → unsigned_abs (neg_ℤ z) ≡ unsigned_abs z
unsigned_abs-neg (pos zero) = refl
unsigned_abs-neg (pos (suc n)) = refl
unsigned_abs-neg (negsuc n) = refl

-- a negated number as it is passed
abbrev pub negated : ℤ → ℤ
negated z = pos 0 -ℤ to_z w128 (of_z w128 z)

pub negated-is : (z : ℤ) → Fits z → negated z ≡ neg_ℤ z
negated-is z h = rw (passed z h) (omega (arith, ints))

pub negated_fits : (z : ℤ) → Fits z → Fits (negated z)
negated_fits z h = rw (negated-is z h, unsigned_abs-neg z) h

-- what a test of a number as it is passed says
pub positive : (passed_number z : ℤ) → passed_number ≡ z → lt_z (pos 0) passed_number ≡ true → pos 0 <ℤ z
positive passed_number z e h = let k = rw e at h in grind (arith, ints)

pub not_positive : (passed_number z : ℤ) → passed_number ≡ z → pos 0 ≤ℤ z → lt_z (pos 0) passed_number ≡ false → z ≡ pos 0
not_positive passed_number z e above h = let k = rw e at h in grind (arith, ints)
