-- An average in the unit of its column is the quotient in lowest terms.
use Rattle.std.proofs.Common.{◌≡◌, ◌≢◌, ◌≤◌, ◌<◌, ℕ, zero, suc, ◌+◌, ◌*◌, ◌%◌, ◌^◌, ℤ, pos, negsuc, neg_ℤ, ◌*ℤ◌, ◌<ℤ◌, ◌≤ℤ◌, unsigned_abs, arith, refl, ap, sym, ◌∙◌}
use Rattle.std.specs.Int.{IsGcd}
use Rattle.std.proofs.lemmas.Int.{ints, unsigned_abs-mul}
use Rattle.std.proofs.lemmas.Nat.{mod_below, mul-le}
use Rattle.std.proofs.lemmas.Nat.Gcd.{IsGcd-from_zero, IsGcd-from_mod}
use Rattle.std.proofs.Math.Nat.{one-le-pow, pow-le-pow_right, one-le-mul}
use Rattle.std.proofs.Math.IntN.{negsuc-*ℤ-pos}
use Rattle.pc_num.specs.declared.fraction.Frac.{Frac}
use Rattle.pc_num.specs.Fractions.{IsQuotient, IsReducedOf}
use Rattle.pc_num.specs.Scaled.{signed}
use Rattle.pc_num.specs.Signs.{Fits, differ}
use Rattle.pc_num.proofs.Divisors.{reduced_share, reduced_is_one}
use Rattle.pc_num.proofs.Sums.{pos_of_abs}
use Rattle.pc_report.specs.Units.{IsAverage, divisor, divisor_in, in_column, lowest, with_sign}

-- ---- lowest terms

-- so many remainders are enough where the second number is less
divides_in : (n a b : ℕ) → b < n → IsGcd a b (divisor_in n a b)
unfolding divisor_in
divides_in zero a b few = absurd (omega arith)
divides_in (suc n) a zero few = IsGcd-from_zero a zero refl
divides_in (suc n) a (suc b) few =
    let some : zero < suc b = omega arith in
    IsGcd-from_mod a (suc b) _ (divides_in n (suc b) (a % suc b) (omega (arith, mod_below a (suc b) some)))

pub lowest_is_reduced : (a b : ℕ) → zero < b → IsReducedOf a b (lowest a b).0 (lowest a b).1
lowest_is_reduced a b some = reduced_share a b (divisor a b) some (divides_in (b + 1) a b (omega arith))

-- ---- the quotient by a number above 0

sizes_reduced : (n : ℤ) (d : ℕ) (f : Frac) → IsQuotient n (pos d) f → IsReducedOf (unsigned_abs n) d (unsigned_abs f.num) (unsigned_abs f.den)
sizes_reduced n d f h = record {
  above = let above = h.frac.above in omega (arith, ints);
  reduced = h.frac.reduced;
  equal = sym (unsigned_abs-mul f.num (pos d)) ∙ ap unsigned_abs h.equal ∙ unsigned_abs-mul n f.den;
}

-- two numbers with equal multiples, by factors above 0, have one sign
of_one_sign : (n x : ℤ) (d e : ℕ) → zero < d → zero < e → x *ℤ pos d ≡ n *ℤ pos e → x ≡ signed (differ n (pos d)) (unsigned_abs x)
of_one_sign (pos n) (pos x) d e own others same = refl
of_one_sign (negsuc n) (negsuc x) d e own others same = refl
of_one_sign (pos n) (negsuc x) d e own others same =
    let turned : neg_ℤ (pos (suc x * d)) ≡ pos (n * e) = sym (negsuc-*ℤ-pos x d) ∙ same in
    let some : 1 ≤ suc x * d = one-le-mul (omega arith) own in
    absurd (omega (arith, ints, turned, some))
of_one_sign (negsuc n) (pos x) d e own others same =
    let turned : pos (x * d) ≡ neg_ℤ (pos (suc n * e)) = same ∙ negsuc-*ℤ-pos n e in
    let some : 1 ≤ suc n * e = one-le-mul (omega arith) others in
    absurd (omega (arith, ints, turned, some))

pub quotient_is_lowest : (n : ℤ) (d : ℕ) (f : Frac) → zero < d → IsQuotient n (pos d) f → f ≡ with_sign (differ n (pos d)) (lowest (unsigned_abs n) d)
quotient_is_lowest n d f some h =
    let whole : f.den ≡ pos (unsigned_abs f.den) = pos_of_abs f.den h.frac.above in
    let sizes = sizes_reduced n d f h in
    let same = reduced_is_one _ _ _ _ _ _ some sizes (lowest_is_reduced (unsigned_abs n) d some) in
    let sign : f.num ≡ signed (differ n (pos d)) (unsigned_abs f.num) = of_one_sign n f.num d (unsigned_abs f.den) some sizes.above (h.equal ∙ ap (λ (den : ℤ). n *ℤ den) whole) in
    let num : f.num ≡ signed (differ n (pos d)) (lowest (unsigned_abs n) d).0 = sign ∙ ap (signed (differ n (pos d))) same.0 in
    let den : f.den ≡ pos (lowest (unsigned_abs n) d).1 = whole ∙ ap pos same.1 in
    rw (num, den) refl

-- ---- an average over 10 ^ scale

-- the denominator is above 0, and fits
pub den_is_small : (den : ℤ) (scale : ℕ) → pos 0 <ℤ den → den ≤ℤ pos 30_000_000_000_000_000 → scale ≤ 6 → (pos 0 <ℤ (den *ℤ pos (10 ^ scale))) × Fits (den *ℤ pos (10 ^ scale))
den_is_small (negsuc den) scale above small few = absurd (omega (arith, ints))
den_is_small (pos den) scale above small few =
    let power : 10 ^ scale ≤ 10 ^ 6 = pow-le-pow_right (omega arith) few in
    let most : den * 10 ^ scale ≤ 30_000_000_000_000_000 * 10 ^ 6 = mul-le den (10 ^ scale) 30_000_000_000_000_000 (10 ^ 6) (omega (arith, ints)) power in
    let some : 1 ≤ den * 10 ^ scale = one-le-mul (omega (arith, ints)) (one-le-pow scale 10 (omega arith)) in
    (omega (arith, ints), omega arith)

pub den_fits : (value : Frac) (scale : ℕ) (den : ℤ) → IsAverage value → scale ≤ 6 → den ≡ value.den *ℤ pos (10 ^ scale) → Fits den
den_fits value scale den is few e = rw e (den_is_small value.den scale is.above is.small few).1

pub den_is_not_zero : (value : Frac) (scale : ℕ) (den : ℤ) → IsAverage value → scale ≤ 6 → den ≡ value.den *ℤ pos (10 ^ scale) → den ≢ pos 0
den_is_not_zero value scale den is few e none =
    let above = (den_is_small value.den scale is.above is.small few).0 in
    absurd (omega (arith, ints, above, e, none))

same_sign : (n : ℤ) (d e : ℕ) → differ n (pos d) ≡ differ n (pos e)
same_sign (pos n) d e = refl
same_sign (negsuc n) d e = refl

quotient_in_column : (num den : ℤ) (scale : ℕ) (f : Frac) → pos 0 <ℤ den → pos 0 <ℤ (den *ℤ pos (10 ^ scale)) → IsQuotient num (den *ℤ pos (10 ^ scale)) f → f ≡ with_sign (differ num den) (lowest (unsigned_abs num) (unsigned_abs den * 10 ^ scale))
quotient_in_column num (negsuc den) scale f above product h = absurd (omega (arith, ints))
quotient_in_column num (pos den) scale f above product h =
    rw (same_sign num den (den * 10 ^ scale)) (quotient_is_lowest num (den * 10 ^ scale) f (omega (arith, ints)) h)

pub quotient_is_in_column : (value f : Frac) (scale : ℕ) (den : ℤ) → IsAverage value → scale ≤ 6 → den ≡ value.den *ℤ pos (10 ^ scale) → IsQuotient value.num den f → f ≡ in_column scale value
unfolding in_column
quotient_is_in_column value f scale den is few e h =
    quotient_in_column value.num value.den scale f is.above (den_is_small value.den scale is.above is.small few).0 (rw e at h)
