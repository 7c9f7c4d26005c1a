-- Rows of whole numbers, place by place: what is combined, and what is made primitive.
use Rattle.std.proofs.Common.{◌≡◌, ℕ, zero, suc, ◌+◌, ◌*◌, ◌/◌, ◌%◌, ◌<◌, ◌≤◌, List, [], ◌∷◌, map, length, refl, ap, arith}
use Rattle.std.specs.Prelude.{ℤ, pos, negsuc, nat_abs, ◌-ℤ◌, ◌*ℤ◌, ◌<ℤ◌, ◌≤ℤ◌}
use Rattle.std.specs.Int.{◌∣◌, int_div_euclid}
use Rattle.std.proofs.lemmas.Int.{ints, by_lt_z}
use Rattle.std.proofs.lemmas.List.{length-map}
use Rattle.std.proofs.Math.Nat.{dvd-mod_iff, div-mul_cancel}
use Rattle.std.proofs.lemmas.Nat.{mod_below, div-add-mod', mul-le}
use Rattle.std.proofs.lemmas.Nat.Gcd.{dvd_refl, dvd-zero, dvd_trans}
use Rattle.pc_program_bound.specs.Sums.{int_at}
use Rattle.pc_simplex_tableau.specs.Numbers.{gcd_within, gcd, common, primitive, combined}
use Rattle.pc_simplex_tableau.proofs.Products.{one-mul}

-- ---- combined rows

pub length-combined : (p t : ℤ) (row other : List ℤ) → length row ≤ length other → length (combined p row t other) ≡ length row
unfolding combined
length-combined p t [] other le = refl
length-combined p t (a ∷ row) [] le = absurd (omega (arith, le))
length-combined p t (a ∷ row) (b ∷ other) le = ap suc (length-combined p t row other (omega (arith, le)))

pub at-combined : (p t : ℤ) (row other : List ℤ) (k : ℕ) → k < length row → length row ≤ length other
    → int_at (combined p row t other) k ≡ p *ℤ int_at row k -ℤ t *ℤ int_at other k
unfolding combined
at-combined p t [] other k lt le = absurd (omega (arith, lt))
at-combined p t (a ∷ row) [] k lt le = absurd (omega (arith, le))
at-combined p t (a ∷ row) (b ∷ other) zero lt le = refl
at-combined p t (a ∷ row) (b ∷ other) (suc k) lt le = at-combined p t row other k (omega (arith, lt)) (omega (arith, le))

-- ---- common divisors

gcd_within-dvd : (n a b : ℕ) → b < n → (gcd_within n a b ∣ a) × (gcd_within n a b ∣ b)
unfolding gcd_within
gcd_within-dvd zero a b lt = absurd (omega (arith, lt))
gcd_within-dvd (suc n) a zero lt = (dvd_refl a, dvd-zero a)
gcd_within-dvd (suc n) a (suc c) lt =
    let some : zero < suc c = omega arith in
    let rest = gcd_within-dvd n (suc c) (a % suc c) (omega (arith, lt, mod_below a (suc c) some)) in
    ((dvd-mod_iff _ rest.0).0 rest.1, rest.0)

gcd-dvd : (a b : ℕ) → (gcd a b ∣ a) × (gcd a b ∣ b)
unfolding gcd
gcd-dvd a b = gcd_within-dvd (b + 1) a b (omega arith)

pub common-dvd : (row : List ℤ) (k : ℕ) → common row ∣ nat_abs (int_at row k)
unfolding common
common-dvd [] k = dvd-zero 0
common-dvd (a ∷ row) zero = (gcd-dvd (nat_abs a) (common row)).0
common-dvd (a ∷ row) (suc k) = dvd_trans _ (gcd-dvd (nat_abs a) (common row)).1 (common-dvd row k)

pub at-divided : (row : List ℤ) (g : ℤ) (k : ℕ) → int_at (map (λ a. int_div_euclid a g) row) k ≡ int_div_euclid (int_at row k) g
at-divided [] g k = none g
  where
    none : (g : ℤ) → pos 0 ≡ int_div_euclid (pos 0) g
    none (pos n) = omega (arith, ints)
    none (negsuc n) = omega (arith, ints)
at-divided (a ∷ row) g zero = refl
at-divided (a ∷ row) g (suc k) = at-divided row g k

-- ---- a row that is divided

-- the quotient of a multiple, times the divisor
divided_up : (n g q d rest : ℕ) → d * g + rest ≡ n → rest < g → q * g ≡ suc n → d * g + g ≡ suc n
divided_up n g q d rest split less e = by_lt_z (pos d) (pos q) above below
  where
    over : (a b : ℕ) → a ≤ b → a * g ≤ b * g
    over a b le = mul-le a g b g le (omega arith)

    above : pos d <ℤ pos q → d * g + g ≡ suc n
    above lt = let more : suc d * g ≤ q * g = over (suc d) q (omega (arith, ints, lt)) in omega (arith, more, split, less, e)

    below : pos q ≤ℤ pos d → d * g + g ≡ suc n
    below le = absurd (let more : q * g ≤ d * g = over q d (omega (arith, ints, le)) in omega (arith, more, split, e))

pub exact : (g : ℕ) (a : ℤ) → zero < g → g ∣ nat_abs a → pos g *ℤ int_div_euclid a (pos g) ≡ a
exact g (pos n) some divides = let back : (n / g) * g ≡ n = div-mul_cancel _ divides in omega (arith, ints, back)
exact g (negsuc n) some divides =
    let back = divided_up n g (suc n / g) (n / g) (n % g) (div-add-mod' n g) (mod_below n g some) (div-mul_cancel _ divides) in
    omega (arith, ints, back)

pub divided : (row : List ℤ) (g k : ℕ) → zero < g → g ∣ nat_abs (int_at row k)
    → pos g *ℤ int_at (map (λ a. int_div_euclid a (pos g)) row) k ≡ int_at row k
divided row g k some divides = rw (at-divided row (pos g) k) (exact g (int_at row k) some divides)

-- a row is a positive multiple of the primitive one
pub record IsTimes (row of : List ℤ) : Type 0 where
  pub times : ℤ
  pub positive : pos 0 <ℤ times
  pub each : (k : ℕ) → times *ℤ int_at of k ≡ int_at row k

pub IsTimes-primitive : (row : List ℤ) → IsTimes row (primitive row)
unfolding primitive
IsTimes-primitive row = by (common row) (common-dvd row)
  where
    by : (g : ℕ) → ((k : ℕ) → g ∣ nat_abs (int_at row k))
        → IsTimes row (elim g [ zero ↦ row | suc h ↦ map (λ a. int_div_euclid a (pos (suc h))) row ])
    by zero divides = record { times = pos 1; positive = omega (arith, ints); each = λ k. one-mul (int_at row k) }
    by (suc h) divides = record { times = pos (suc h); positive = omega (arith, ints); each = λ k. divided row (suc h) k (omega arith) (divides k) }

pub length-primitive : (row : List ℤ) → length (primitive row) ≡ length row
unfolding primitive
length-primitive row = by (common row)
  where
    by : (g : ℕ) → length {A = ℤ} (elim g [ zero ↦ row | suc h ↦ map (λ a. int_div_euclid a (pos (suc h))) row ]) ≡ length row
    by zero = refl
    by (suc h) = length-map row (λ a. int_div_euclid a (pos (suc h)))
