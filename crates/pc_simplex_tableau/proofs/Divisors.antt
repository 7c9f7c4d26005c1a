-- What a row is once it is divided by the greatest common divisor of its numbers.
use Rattle.std.proofs.Common.{◌≡◌, ◌<◌, ◌+◌, ◌*◌, ◌%◌, ℕ, zero, suc, ℤ, pos, negsuc, ◌*ℤ◌, List, [], ◌∷◌, map, All, nat_abs, unsigned_abs, arith, refl, ap, ap₂, ◌∙◌, sym, mul-div_cancel, div-le_self}
use Rattle.std.specs.Int.{◌∣◌, IsGcd, int_div_euclid}
use Rattle.std.proofs.lemmas.Int.{ints}
use Rattle.std.proofs.lemmas.Nat.{mod_below, div-mul-add}
use Rattle.std.proofs.lemmas.Nat.Gcd.{dvd-zero, dvd_trans, dvd_antisymm, IsGcd-from_zero, IsGcd-from_mod}
use Rattle.std.proofs.lemmas.List.Elements.{All-nil, All-cons, All-head, All-tail, All-weaker, All-map}
use Rattle.std.proofs.Math.Nat.{eq-zero_of_zero-dvd}
use Rattle.pc_num.specs.Divisor.{DividesRow, IsRowGcd}
use Rattle.pc_program_bound.specs.Bound.{IsFit}
use Rattle.pc_simplex_tableau.specs.Numbers.{gcd_within, gcd, common, primitive}

-- ---- the divisor
gcd_within_is : (n a b : ℕ) → b < n → IsGcd a b (gcd_within n a b)
unfolding gcd_within
gcd_within_is zero a b h = absurd (omega arith)
gcd_within_is (suc n) a zero h = IsGcd-from_zero a zero refl
gcd_within_is (suc n) a (suc c) h =
    let some : 0 < suc c = omega arith in
    IsGcd-from_mod a (suc c) _ (gcd_within_is n (suc c) (a % suc c) (omega (arith, mod_below a (suc c) some)))

gcd_is : (a b : ℕ) → IsGcd a b (gcd a b)
unfolding gcd
gcd_is a b = gcd_within_is (b + 1) a b (omega arith)

pub gcd_row-cons : (g k : ℕ) (a : ℤ) (row : List ℤ) → IsGcd (nat_abs a) k g → IsRowGcd row k → IsRowGcd (a ∷ row) g
gcd_row-cons g k a row p h = record {
  common = All-cons (λ (x : ℤ). g ∣ unsigned_abs x) a row p.0 (All-weaker (λ (x : ℤ). k ∣ unsigned_abs x) (λ (x : ℤ). g ∣ unsigned_abs x) (λ x d. dvd_trans g p.1 d) row h.common);
  greatest = λ d all. p.2 d (All-head (λ (x : ℤ). d ∣ unsigned_abs x) a row all) (h.greatest d (All-tail (λ (x : ℤ). d ∣ unsigned_abs x) a row all));
}

pub common_is : (row : List ℤ) → IsRowGcd row (common row)
unfolding common
common_is [] = record { common = All-nil (λ (x : ℤ). 0 ∣ unsigned_abs x); greatest = λ d all. dvd-zero d }
common_is (a ∷ row) = gcd_row-cons (gcd (nat_abs a) (common row)) (common row) a row (gcd_is (nat_abs a) (common row)) (common_is row)

pub same_row_gcd : (row : List ℤ) (g k : ℕ) → IsRowGcd row g → IsRowGcd row k → g ≡ k
same_row_gcd row g k p q = dvd_antisymm (q.greatest g p.common) (p.greatest k q.common)

-- ---- the division
divided_number : (x : ℤ) (g : ℕ) → int_div_euclid (x *ℤ pos (suc g)) (pos (suc g)) ≡ x
divided_number (pos n) g = ap pos (mul-div_cancel n (omega arith))
divided_number (negsuc n) g =
    let e : negsuc n *ℤ pos (suc g) ≡ negsuc (n * suc g + g) = omega (arith, ints) in
    rw e (ap negsuc (div-mul-add n (suc g) g (omega arith)))

pub divided_row : (row : List ℤ) (g : ℕ) → map (λ a. int_div_euclid a (pos (suc g))) (map (λ x. x *ℤ pos (suc g)) row) ≡ row
divided_row [] g = refl
divided_row (x ∷ row) g = ap₂ ◌∷◌ (divided_number x g) (divided_row row g)

pub quotient_fits : (g : ℕ) (a : ℤ) → IsFit a → IsFit (int_div_euclid a (pos (suc g)))
quotient_fits g (pos n) h = omega (arith, ints, div-le_self n (suc g), h)
quotient_fits g (negsuc n) h = omega (arith, ints, div-le_self n (suc g), h)

-- the row divided by a number that may be 0
abbrev divided_by : ℕ → List ℤ → List ℤ
divided_by g row = elim g [ zero ↦ row | suc g ↦ map (λ a. int_div_euclid a (pos (suc g))) row ]

zeros : (row : List ℤ) → DividesRow 0 row → All (λ x. x ≡ pos 0) row
zeros row h = All-weaker (λ (x : ℤ). 0 ∣ unsigned_abs x) (λ (x : ℤ). x ≡ pos 0) (λ x d. let e = eq-zero_of_zero-dvd d in omega (arith, ints)) row h

divided_is : (g : ℕ) (old new : List ℤ) → IsRowGcd old g → map (λ x. x *ℤ pos g) new ≡ old → (All (λ x. x ≡ pos 0) old → new ≡ old) → new ≡ divided_by g old
divided_is zero old new h times kept = kept (zeros old h.common)
divided_is (suc g) old new h times kept = rw (← times) (sym (divided_row new g))

divided_fits : (g : ℕ) (row : List ℤ) → All IsFit row → All IsFit (divided_by g row)
divided_fits zero row h = h
divided_fits (suc g) row h =
    All-map IsFit (λ a. int_div_euclid a (pos (suc g))) row (All-weaker IsFit (λ a. IsFit (int_div_euclid a (pos (suc g)))) (quotient_fits g) row h)

divided-primitive : (row : List ℤ) → divided_by (common row) row ≡ primitive row
unfolding primitive
divided-primitive row = refl

pub primitive_is : (old new : List ℤ) → (g : ℕ) × IsRowGcd old g × (map (λ x. x *ℤ pos g) new ≡ old) → (All (λ x. x ≡ pos 0) old → new ≡ old) → new ≡ primitive old
primitive_is old new h kept =
    let e : h.0 ≡ common old = same_row_gcd old h.0 (common old) h.1 (common_is old) in
    divided_is h.0 old new h.1 h.2 kept ∙ ap (λ g. divided_by g old) e ∙ divided-primitive old

pub primitive_fits : (old new : List ℤ) → All IsFit old → new ≡ primitive old → All IsFit new
primitive_fits old new h e = rw (e, ← divided-primitive old) (divided_fits (common old) old h)
