-- A quotient in lowest terms has no greater numbers.
use Rattle.std.proofs.Common.{◌≡◌, ◌*◌, ◌<◌, ◌≤◌, sym, ap, ◌∙◌, arith}
use Rattle.std.specs.Prelude.{ℤ, pos, nat_abs, ◌≤ℤ◌, ◌<ℤ◌, unsigned_abs}
use Rattle.std.specs.Int.{◌∣◌}
use Rattle.std.proofs.Math.Nat.{dvd-mul_left, mul-le-mul_left, le_of_mul-le-mul_right}
use Rattle.std.proofs.lemmas.Int.{ints, unsigned_abs-mul}
use Rattle.std.proofs.lemmas.Nat.Gcd.{IsGcd-swap, le_of_dvd}
use Rattle.pc_num.specs.declared.fraction.Frac.{Frac}
use Rattle.pc_num.specs.Fractions.{IsQuotient}
use Rattle.pc_num.proofs.Divisors.{gauss}

module _ (n d : ℤ) (f : Frac) (some : pos 0 <ℤ d) (is : IsQuotient n d f) where
  sizes_equal : unsigned_abs f.num * unsigned_abs d ≡ unsigned_abs n * unsigned_abs f.den
  sizes_equal = sym (unsigned_abs-mul f.num d) ∙ ap unsigned_abs is.equal ∙ unsigned_abs-mul n f.den

  den_less : unsigned_abs f.den ≤ unsigned_abs d
  den_less =
      let divides : unsigned_abs f.den ∣ unsigned_abs f.num * unsigned_abs d = rw sizes_equal (dvd-mul_left (unsigned_abs f.den) (unsigned_abs n)) in
      let positive : 0 < unsigned_abs d = omega (arith, ints, some) in
      le_of_dvd positive (gauss (unsigned_abs f.den) (unsigned_abs f.num) (unsigned_abs d) (IsGcd-swap (unsigned_abs f.num) (unsigned_abs f.den) 1 is.frac.reduced) divides)

  pub small_den : f.den ≤ℤ d
  small_den = omega (arith, ints, den_less, is.frac.above, some)

  pub small_num : nat_abs f.num ≤ nat_abs n
  small_num =
      let more : unsigned_abs n * unsigned_abs f.den ≤ unsigned_abs n * unsigned_abs d = mul-le-mul_left (unsigned_abs n) den_less in
      let within : unsigned_abs f.num * unsigned_abs d ≤ unsigned_abs n * unsigned_abs d = omega (arith, more, sizes_equal) in
      let less = le_of_mul-le-mul_right {m = unsigned_abs f.num} {n = unsigned_abs n} {k = unsigned_abs d} within (omega (arith, ints, some)) in
      omega (arith, ints, less)
