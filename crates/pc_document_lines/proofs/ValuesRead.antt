-- What the reader of values finds where a number does not fit, and a fraction in units of the last place.
use Rattle.std.proofs.Common.{◌≡◌, ◌≢◌, ◌≤◌, ◌<◌, ◌*◌, ◌^◌, ◌&&◌, ℕ, zero, suc, ℤ, pos, negsuc, neg_ℤ, ◌*ℤ◌, unsigned_abs, arith, refl, ap, ap₂, ◌∙◌, Bool, true, false, Option, Some, None, if◌then◌else◌}
use Rattle.std.specs.Prelude.{◌≤ℤ◌}
use Rattle.std.specs.Ordering.{int_eq}
use Rattle.std.proofs.lemmas.Bool.{and_parts, leb-true, lt-leb}
use Rattle.std.proofs.lemmas.Int.{ints, unsigned_abs-mul}
use Rattle.std.proofs.lemmas.Nat.{mul-le}
use Rattle.std.proofs.Math.Nat.{one-le-mul, one-le-pow, pow-le-pow_right}
use Rattle.std.proofs.Math.IntN.{negsuc-*ℤ-pos}
use Rattle.pc_num.specs.Fractions.{IsQuotient}
use Rattle.pc_num.specs.Signs.{Fits, differ}
use Rattle.pc_num.specs.declared.fraction.Frac.{Frac}
use Rattle.pc_report.specs.Units.{lowest, with_sign}
use Rattle.pc_report.proofs.Units.{quotient_is_lowest}
use Rattle.pc_document_lines.specs.Likely.{IsLikely}
use Rattle.pc_document_lines.specs.Numbers.{is_positive, is_within}
use Rattle.pc_document_lines.specs.ValueLines.{in_units, in_units_if, is_printed_size, is_whole_value}
use Rattle.pc_document_lines.proofs.NumbersLikely.{both_false}

-- ---- numbers that do not fit

-- a number that does not fit is past every limit that does
past_within : (most : ℕ) (number : ℤ) → most < 2 ^ 127 → 2 ^ 127 ≤ unsigned_abs number → is_within most number ≡ false
past_within most number few large = lt-leb (unsigned_abs number) most (omega (arith, few, large))

-- it makes no whole value
pub large_whole : (num den : ℤ) → 2 ^ 127 ≤ unsigned_abs num → is_whole_value (record { num = num; den = den }) ≡ false
unfolding is_whole_value
large_whole num den large = both_false (int_eq den (pos 1)) (is_within (10 ^ 31) num) (past_within (10 ^ 31) num (omega arith) large)

-- as a numerator it makes no fraction that is printed
pub large_num : (num den : ℤ) → 2 ^ 127 ≤ unsigned_abs num → is_printed_size (record { num = num; den = den }) ≡ false
large_num num den large = ap (λ (test : Bool). test && (is_positive den && is_within (3 * 10 ^ 22) den)) (past_within (3 * 10 ^ 31) num (omega arith) large)

-- as a denominator it makes none
pub large_den : (num den : ℤ) → 2 ^ 127 ≤ unsigned_abs den → is_printed_size (record { num = num; den = den }) ≡ false
large_den num den large =
    both_false (is_within (3 * 10 ^ 31) num) (is_positive den && is_within (3 * 10 ^ 22) den)
    (both_false (is_positive den) (is_within (3 * 10 ^ 22) den) (past_within (3 * 10 ^ 22) den (omega arith) large))

pub ruleset large_sizes = (large_num, large_den)

-- where no fraction may stand, nothing is read
pub none_in_units : (scale : ℕ) (likely : Option Frac) → IsLikely is_printed_size likely None → in_units_if scale likely ≡ None
none_in_units scale None refused = refl
none_in_units scale (Some f) refused = ap (λ (test : Bool). if test then Some (in_units scale f) else None) refused

-- ---- units

-- the sizes of a fraction that is printed
record HasSizes (num den : ℤ) : Type 0 where
  num_size : unsigned_abs num ≤ 3 * 10 ^ 31
  above : pos 1 ≤ℤ den
  den_size : unsigned_abs den ≤ 3 * 10 ^ 22

-- what passes the test has them
sizes_of : (f : Frac) → is_printed_size f ≡ true → HasSizes f.num f.den
sizes_of f printed =
    let parts = and_parts (is_within (3 * 10 ^ 31) f.num) (is_positive f.den && is_within (3 * 10 ^ 22) f.den) printed in
    let den = and_parts (is_positive f.den) (is_within (3 * 10 ^ 22) f.den) parts.1 in
    record {
      num_size = leb-true (unsigned_abs f.num) (3 * 10 ^ 31) parts.0;
      above = grind (arith, ints, den.0);
      den_size = leb-true (unsigned_abs f.den) (3 * 10 ^ 22) den.1;
    }

-- its numerator is small
pub num_small : (f : Frac) → is_printed_size f ≡ true → unsigned_abs f.num ≤ 3 * 10 ^ 31
num_small f printed = (sizes_of f printed).num_size

-- it fits
pub num_fits_itself : (f : Frac) → is_printed_size f ≡ true → Fits f.num
num_fits_itself f printed = let size = num_small f printed in omega (arith, size)

-- its denominator fits
pub den_fits : (f : Frac) → is_printed_size f ≡ true → Fits f.den
den_fits f printed = let size = (sizes_of f printed).den_size in omega (arith, size)

-- and is not 0
pub den_not_zero : (f : Frac) → is_printed_size f ≡ true → f.den ≢ pos 0
den_not_zero f printed none = let above = (sizes_of f printed).above in absurd (omega (arith, ints, above, none))

-- a small number in units of the last place fits
pub units_fit : (num : ℤ) (scale : ℕ) → unsigned_abs num ≤ 3 * 10 ^ 31 → scale ≤ 6 → Fits (num *ℤ pos (10 ^ scale))
units_fit num scale small few =
    let power : 10 ^ scale ≤ 10 ^ 6 = pow-le-pow_right (omega arith) few in
    let most : unsigned_abs num * 10 ^ scale ≤ 3 * 10 ^ 31 * 10 ^ 6 = mul-le (unsigned_abs num) (10 ^ scale) (3 * 10 ^ 31) (10 ^ 6) small power in
    let same : unsigned_abs (num *ℤ pos (10 ^ scale)) ≡ unsigned_abs num * 10 ^ scale = unsigned_abs-mul num (pos (10 ^ scale)) in
    omega (arith, most, same)

-- its numerator in units of the last place fits
pub num_fits : (f : Frac) (scale : ℕ) (num : ℤ) → is_printed_size f ≡ true → scale ≤ 6 → num ≡ f.num *ℤ pos (10 ^ scale) → Fits num
num_fits f scale num printed few e = rw e (units_fit f.num scale (num_small f printed) few)

-- a number below 0 over one above it is below 0
below_zero : (m d : ℕ) → 1 ≤ m → differ (neg_ℤ (pos m)) (pos d) ≡ true
below_zero zero d some = absurd (omega arith)
below_zero (suc m) d some = refl

-- a power above 0 keeps the sign
sign_kept : (num : ℤ) (power d : ℕ) → 1 ≤ power → differ (num *ℤ pos power) (pos d) ≡ differ num (pos d)
sign_kept (pos n) power d some = refl
sign_kept (negsuc n) power d some = ap (λ (product : ℤ). differ product (pos d)) (negsuc-*ℤ-pos n power) ∙ below_zero (suc n * power) d (one-le-mul (omega arith) some)

-- the quotient is the fraction in lowest terms
quotient_of : (num den : ℤ) (scale : ℕ) (value : Frac) → pos 1 ≤ℤ den → IsQuotient (num *ℤ pos (10 ^ scale)) den value → value ≡ with_sign (differ num den) (lowest (unsigned_abs num * 10 ^ scale) (unsigned_abs den))
quotient_of num (negsuc d) scale value above quotient = absurd (omega (arith, ints, above))
quotient_of num (pos d) scale value above quotient =
    quotient_is_lowest (num *ℤ pos (10 ^ scale)) d value (omega (arith, ints, above)) quotient
    ∙ ap₂ (λ (minus : Bool) (size : ℕ). with_sign minus (lowest size d)) (sign_kept num (10 ^ scale) d (one-le-pow scale 10 (omega arith))) (unsigned_abs-mul num (pos (10 ^ scale)))

-- the quotient of a printed fraction is that fraction in units of the last place
pub quotient_in_units : (f value : Frac) (scale : ℕ) (num : ℤ) → is_printed_size f ≡ true → num ≡ f.num *ℤ pos (10 ^ scale) → IsQuotient num f.den value → value ≡ in_units scale f
unfolding in_units
quotient_in_units f value scale num printed e quotient = quotient_of f.num f.den scale value (sizes_of f printed).above (rw e at quotient)

pub ruleset units = (num_small, den_fits, den_not_zero, num_fits, quotient_in_units)
