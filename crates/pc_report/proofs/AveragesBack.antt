-- Averages are read back from what is written for them.
use Rattle.std.proofs.Common.{◌≡◌, ◌≤◌, ◌<◌, ℕ, zero, suc, ◌*◌, ◌/◌, ◌^◌, ◌==◌, Bool, true, false, ℤ, pos, negsuc, unsigned_abs, List, [], ◌∷◌, ◌++◌, arith, refl, sym, ap, ap₂, ◌∙◌, append_assoc}
use Rattle.std.specs.Char.{is_ascii_digit}
use Rattle.std.specs.Ordering.{int_eq}
use Rattle.std.proofs.lemmas.Bool.Decides.{Decides-int_eq}
use Rattle.std.proofs.lemmas.Int.{ints}
use Rattle.std.proofs.lemmas.Nat.{mul-le}
use Rattle.std.proofs.Math.Nat.{one-le-pow, pow-le-pow_right, one-le-mul, div-le_self, eq_of_mul-eq-mul_right}
use Rattle.pc_num.specs.Fractions.{IsFrac}
use Rattle.pc_num.specs.Put.{frac_text, scaled_text}
use Rattle.pc_num.specs.Scaled.{signed}
use Rattle.pc_num.specs.Signs.{differ}
use Rattle.pc_num.specs.declared.fraction.Frac.{Frac}
use Rattle.pc_num.proofs.Divisors.{same_reduced}
use Rattle.pc_report.specs.Units.{average_text, divisor, in_column, lowest}
use Rattle.pc_report.proofs.NumbersBack.{scaled_back}
use Rattle.pc_report.proofs.Stops.{same_tail, starts, unlike_starts}
use Rattle.pc_report.proofs.Units.{lowest_is_reduced}

-- ---- the text of a fraction

abbrev pub is_slash : ℕ → Bool
is_slash byte = byte == 47

-- a denominator that is not 1, after a slash
den_text : Bool → ℤ → List ℕ
den_text true den = []
den_text false den = 47 ∷ scaled_text den 0

den_stops : (test : Bool) (den : ℤ) (r : List ℕ) → starts is_ascii_digit r ≡ false → starts is_ascii_digit (den_text test den ++ r) ≡ false
unfolding den_text
den_stops true den r stop = stop
den_stops false den r stop = refl

frac_opens : (f : Frac) (r : List ℕ) → frac_text f ++ r ≡ scaled_text f.num 0 ++ (den_text (int_eq f.den (pos 1)) f.den ++ r)
unfolding frac_text den_text
frac_opens f r = by_test (int_eq f.den (pos 1)) refl
  where
    by_test : (test : Bool) → int_eq f.den (pos 1) ≡ test → frac_text f ++ r ≡ scaled_text f.num 0 ++ (den_text (int_eq f.den (pos 1)) f.den ++ r)
    by_test true one = rw one refl
    by_test false other = rw other (append_assoc (scaled_text f.num 0) (47 ∷ scaled_text f.den 0) r)

-- a text that stops fractions
pub record EndsFraction (r : List ℕ) : Type 0 where
  pub digit : starts is_ascii_digit r ≡ false
  pub slash : starts is_slash r ≡ false

den_back : (test other : Bool) (d e : ℤ) (r s : List ℕ) → int_eq d (pos 1) ≡ test → int_eq e (pos 1) ≡ other → unsigned_abs d < 10 ^ 64 → unsigned_abs e < 10 ^ 64 → EndsFraction r → EndsFraction s → den_text test d ++ r ≡ den_text other e ++ s → (d ≡ e) × (r ≡ s)
unfolding den_text
den_back true true d e r s p q small less stop end same = ((Decides-int_eq d (pos 1)).0 p ∙ sym ((Decides-int_eq e (pos 1)).0 q), same)
den_back true false d e r s p q small less stop end same = absurd (unlike_starts is_slash r (47 ∷ (scaled_text e 0 ++ s)) same stop.slash refl)
den_back false true d e r s p q small less stop end same = absurd (unlike_starts is_slash s (47 ∷ (scaled_text d 0 ++ r)) (sym same) end.slash refl)
den_back false false d e r s p q small less stop end same =
    scaled_back 0 d e r s small less stop.digit end.digit (same_tail 47 47 (scaled_text d 0 ++ r) (scaled_text e 0 ++ s) same)

-- a fraction of numbers that are written whole
record IsWritten (f : Frac) : Type 0 where
  num : unsigned_abs f.num < 10 ^ 64
  den : unsigned_abs f.den < 10 ^ 64

frac_back : (f g : Frac) (r s : List ℕ) → IsWritten f → IsWritten g → EndsFraction r → EndsFraction s → frac_text f ++ r ≡ frac_text g ++ s → (f.num ≡ g.num) × (f.den ≡ g.den) × (r ≡ s)
frac_back f g r s small less stop end e =
    let test = int_eq f.den (pos 1) in
    let other = int_eq g.den (pos 1) in
    let nums = scaled_back 0 f.num g.num (den_text test f.den ++ r) (den_text other g.den ++ s) small.num less.num (den_stops test f.den r stop.digit) (den_stops other g.den s end.digit) (sym (frac_opens f r) ∙ e ∙ frac_opens g s) in
    let dens = den_back test other f.den g.den r s refl refl small.den less.den stop end nums.1 in
    (nums.0, dens.0, dens.1)

-- ---- averages in the unit of their column

pub signed_size : (minus : Bool) (n : ℕ) → unsigned_abs (signed minus n) ≡ n
signed_size true zero = refl
signed_size true (suc n) = refl
signed_size false n = refl

pub den_above : (value : Frac) (scale : ℕ) → IsFrac value → 0 < unsigned_abs value.den * 10 ^ scale
den_above value scale is =
    let above = is.above in
    one-le-mul (omega (arith, ints)) (one-le-pow scale 10 (omega arith))

den_small : (den power : ℕ) → den < 2 ^ 127 → power ≤ 10 ^ 6 → den * power < 10 ^ 64
den_small den power small few =
    let most : den * power ≤ 2 ^ 127 * 10 ^ 6 = mul-le den power (2 ^ 127) (10 ^ 6) (omega arith) few in
    omega arith

in_column_written : (value : Frac) (scale : ℕ) → IsFrac value → scale ≤ 6 → IsWritten (in_column scale value)
unfolding in_column
in_column_written value scale is few =
    let top = unsigned_abs value.num in
    let bottom = unsigned_abs value.den * 10 ^ scale in
    let num_fits = is.num_fits in
    let least : bottom < 10 ^ 64 = den_small (unsigned_abs value.den) (10 ^ scale) is.den_fits (pow-le-pow_right (omega arith) few) in
    record {
      num = rw (signed_size (differ value.num value.den) (top / divisor top bottom)) (omega (arith, div-le_self top (divisor top bottom)));
      den = omega (arith, div-le_self bottom (divisor top bottom));
    }

crossed : (x y n m d e p : ℕ) → 0 < y → x * (d * p) ≡ n * y → x * (e * p) ≡ m * y → n * e ≡ m * d
crossed x y n m d e p some first second =
    let l : (n * e) * y ≡ e * (n * y) = omega arith in
    let r : (m * d) * y ≡ d * (m * y) = omega arith in
    let both : (n * e) * y ≡ (m * d) * y = rw (l, r, ← first, ← second) (omega arith) in
    eq_of_mul-eq-mul_right y some (n * e) (m * d) both

-- numbers of one size that print with one sign
num_same : (n m : ℤ) (d e x : ℕ) → unsigned_abs n ≡ unsigned_abs m → (0 < unsigned_abs n → 0 < x) → signed (differ n (pos d)) x ≡ signed (differ m (pos e)) x → n ≡ m
num_same (pos n) (pos m) d e x sizes some same = ap pos sizes
num_same (negsuc n) (negsuc m) d e x sizes some same = ap negsuc (omega (arith, sizes))
num_same (pos n) (negsuc m) d e x sizes some same =
    let above : 0 < x = some (omega (arith, sizes)) in absurd (omega (arith, ints, above, same))
num_same (negsuc n) (pos m) d e x sizes some same =
    let above : 0 < x = some (omega arith) in absurd (omega (arith, ints, above, same))

pub above_zero : (x n y k : ℕ) → 0 < y → 0 < n → x * k ≡ n * y → 0 < x
above_zero zero n y k some more e = let least : 1 ≤ n * y = one-le-mul more some in absurd (omega (arith, e, least))
above_zero (suc x) n y k some more e = omega arith

-- two averages over numbers above 0
average_same : (n m : ℤ) (d e : ℕ) (scale : ℕ) → IsFrac (record { num = n; den = pos d }) → IsFrac (record { num = m; den = pos e }) → (in_column scale (record { num = n; den = pos d })).num ≡ (in_column scale (record { num = m; den = pos e })).num → (in_column scale (record { num = n; den = pos d })).den ≡ (in_column scale (record { num = m; den = pos e })).den → (n ≡ m) × (d ≡ e)
unfolding in_column
average_same n m d e scale is other nums dens =
    let top = unsigned_abs n in
    let top' = unsigned_abs m in
    let own = lowest_is_reduced top (d * 10 ^ scale) (den_above (record { num = n; den = pos d }) scale is) in
    let its = lowest_is_reduced top' (e * 10 ^ scale) (den_above (record { num = m; den = pos e }) scale other) in
    let x = (lowest top (d * 10 ^ scale)).0 in
    let x' = (lowest top' (e * 10 ^ scale)).0 in
    let y = (lowest top (d * 10 ^ scale)).1 in
    let y' = (lowest top' (e * 10 ^ scale)).1 in
    let xs : x ≡ x' = sym (signed_size (differ n (pos d)) x) ∙ ap unsigned_abs nums ∙ signed_size (differ m (pos e)) x' in
    let ys : y ≡ y' = ap unsigned_abs dens in
    let second : x * (e * 10 ^ scale) ≡ top' * y = ap (λ (k : ℕ). k * (e * 10 ^ scale)) xs ∙ its.equal ∙ ap (λ (k : ℕ). top' * k) (sym ys) in
    let cross = crossed x y top top' d e (10 ^ scale) own.above own.equal second in
    let above = other.above in
    let both = same_reduced top d top' e (omega (arith, ints, above)) is.reduced other.reduced cross in
    let printed : signed (differ n (pos d)) x ≡ signed (differ m (pos e)) x = nums ∙ ap (λ (k : ℕ). signed (differ m (pos e)) k) (sym xs) in
    (num_same n m d e x both.0 (λ some. above_zero x top y (d * 10 ^ scale) own.above some own.equal) printed, both.1)

parts_same : (n m d e : ℤ) (scale : ℕ) → IsFrac (record { num = n; den = d }) → IsFrac (record { num = m; den = e }) → (in_column scale (record { num = n; den = d })).num ≡ (in_column scale (record { num = m; den = e })).num → (in_column scale (record { num = n; den = d })).den ≡ (in_column scale (record { num = m; den = e })).den → ◌≡◌ {A = Frac} (record { num = n; den = d }) (record { num = m; den = e })
parts_same n m (pos d) (pos e) scale is other nums dens =
    let both = average_same n m d e scale is other nums dens in
    ap₂ (λ (num : ℤ) (den : ℕ). record { num = num; den = pos den }) both.0 both.1
parts_same n m (negsuc d) e scale is other nums dens = let above = is.above in absurd (omega (arith, ints, above))
parts_same n m (pos d) (negsuc e) scale is other nums dens = let above = other.above in absurd (omega (arith, ints, above))

pub average_back : (scale : ℕ) (a b : Frac) (r s : List ℕ) → scale ≤ 6 → IsFrac a → IsFrac b → EndsFraction r → EndsFraction s → average_text scale a ++ r ≡ average_text scale b ++ s → (a ≡ b) × (r ≡ s)
average_back scale a b r s few is other stop end e =
    let parts = frac_back (in_column scale a) (in_column scale b) r s (in_column_written a scale is few) (in_column_written b scale other few) stop end e in
    (parts_same a.num b.num a.den b.den scale is other parts.0 parts.1, parts.2)
