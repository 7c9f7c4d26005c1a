-- The greatest common divisor of a row.
use Rattle.std.proofs.Common.{◌≡◌, ◌<◌, ◌≤◌, ◌+◌, ◌/◌, ℕ, zero, suc, ℤ, pos, negsuc, ◌*ℤ◌, ◌<ℤ◌, ◌≤ℤ◌, unsigned_abs, List, [], ◌∷◌, length, take, drop, set, ◌++◌, get_or, map, All, FitsSigned, int_div, arith, refl, ap, sym, add-one, drop-cons, ◌∙◌, ap₂}
use Rattle.std.specs.Int.{◌∣◌, IsGcd, w128}
use Rattle.std.proofs.lemmas.Int.{ints}
use Rattle.std.proofs.lemmas.Nat.Gcd.{dvd_refl, dvd-zero, dvd_trans}
use Rattle.std.proofs.lemmas.List.Elements.{All-nil, All-cons, All-head, All-tail, All-weaker}
use Rattle.std.proofs.Math.IntN.{*ℤ_comm}
use Rattle.std.proofs.Math.Nat.{div-mul_cancel, eq-zero_of_zero-dvd, one-dvd}
use Rattle.pc_num.specs.Divisor.{DividesRow, IsRowGcd}
use Rattle.std.proofs.lemmas.Int.{quot_is, quot_fits, to_z-of_z}
use Rattle.std.proofs.lemmas.List.{get_or_default}
use Rattle.std.proofs.lemmas.List.Edits.{map_over_more}
use Rattle.pc_num.specs.Signs.{Fits}
use Rattle.pc_num.proofs.Signed.{as_passed, passed}
use Rattle.pc_num.proofs.Quotients.{neg-*ℤ-pos}

-- the same for a number and a row
pub record IsGcdWith (d : ℕ) (row : List ℤ) (g : ℕ) : Type 0 where
  pub number : g ∣ d
  pub common : DividesRow g row
  pub greatest : (e : ℕ) → e ∣ d → DividesRow e row → e ∣ g

pub from_zero : (row : List ℤ) (g : ℕ) → IsGcdWith 0 row g → IsRowGcd row g
from_zero row g h = record { common = h.common; greatest = λ d p. h.greatest d (dvd-zero d) p }

gcd_with_cons : (d e g : ℕ) (x : ℤ) (row : List ℤ) → IsGcd d (unsigned_abs x) e → IsGcdWith e row g → IsGcdWith d (x ∷ row) g
gcd_with_cons d e g x row p h = record {
  number = dvd_trans g h.number p.0;
  common = All-cons (λ (y : ℤ). g ∣ unsigned_abs y) x row (dvd_trans g h.number p.1) h.common;
  greatest = λ k q all. h.greatest k (p.2 k q (All-head (λ (y : ℤ). k ∣ unsigned_abs y) x row all)) (All-tail (λ (y : ℤ). k ∣ unsigned_abs y) x row all);
}

pub gcd_with_step : (d e g i : ℕ) (row : List ℤ) → i < length row → IsGcd d (unsigned_abs (get_or row i (pos 0))) e → IsGcdWith e (drop (i + 1) row) g → IsGcdWith d (drop i row) g
gcd_with_step d e g i row lt p h =
    let rest : IsGcdWith e (drop (suc i) row) g = rw add-one at h in
    rw (drop-cons row i (pos 0)) (gcd_with_cons d e g (get_or row i (pos 0)) (drop (suc i) row) p rest)

drop_past : (row : List ℤ) (i : ℕ) → length row ≤ i → drop i row ≡ []
drop_past [] zero h = refl
drop_past [] (suc i) h = refl
drop_past (x ∷ row) zero h = absurd (omega arith)
drop_past (x ∷ row) (suc i) h = drop_past row i (omega arith)

pub gcd_with_end : (d i : ℕ) (row : List ℤ) → length row ≤ i → IsGcdWith d (drop i row) d
gcd_with_end d i row h = rw (drop_past row i h) (record { number = dvd_refl d; common = All-nil (λ (y : ℤ). d ∣ unsigned_abs y); greatest = λ e p q. p })

-- no number makes a divisor of 1 less
pub gcd_with_one : (row : List ℤ) → IsGcdWith 1 row 1
gcd_with_one row = record { number = dvd_refl 1; common = λ i default lt. one-dvd _; greatest = λ e p q. p }

divided_back : (x : ℤ) (g : ℕ) → g ∣ unsigned_abs x → int_div x (pos g) *ℤ pos g ≡ x
divided_back (pos n) g h = ap pos (div-mul_cancel g h)
divided_back (negsuc n) g h = rw (neg-*ℤ-pos (suc n / g) g, div-mul_cancel g h) refl

divided_once : (x : ℤ) → int_div x (pos 1) ≡ x
divided_once x =
    let back = divided_back x 1 (one-dvd (unsigned_abs x)) in
    let same = *ℤ_comm (int_div x (pos 1)) (pos 1) in
    omega (arith, ints, back, same)

-- what is divided by 1 stays
pub row_divided_once : (row : List ℤ) (d : ℤ) → d ≡ pos 1 → row ≡ map (λ x. int_div x d) row
row_divided_once [] d e = refl
row_divided_once (x ∷ row) d e = ap₂ ◌∷◌ (sym (rw e (divided_once x))) (row_divided_once row d e)

pub row_divided_back : (row : List ℤ) (g : ℕ) → DividesRow g row → map (λ x. x *ℤ pos g) (map (λ x. int_div x (pos g)) row) ≡ row
row_divided_back [] g h = refl
row_divided_back (x ∷ row) g h =
    let head = divided_back x g (All-head (λ (y : ℤ). g ∣ unsigned_abs y) x row h) in
    let tail = row_divided_back row g (All-tail (λ (y : ℤ). g ∣ unsigned_abs y) x row h) in
    rw (head, tail) refl

zero_from_divides : (x : ℤ) → zero ∣ unsigned_abs x → x ≡ pos 0
zero_from_divides (pos n) h = ap pos (eq-zero_of_zero-dvd h)
zero_from_divides (negsuc n) h = absurd (let e = eq-zero_of_zero-dvd h in omega arith)

-- a row of zeros times 0 is itself
pub zeros_times : (row : List ℤ) → DividesRow 0 row → map (λ x. x *ℤ pos 0) row ≡ row
zeros_times [] h = refl
zeros_times (x ∷ row) h =
    let e = zero_from_divides x (All-head (λ (y : ℤ). 0 ∣ unsigned_abs y) x row h) in
    let tail = zeros_times row (All-tail (λ (y : ℤ). 0 ∣ unsigned_abs y) x row h) in
    rw (tail, e) refl

pub zeros_gcd : (row : List ℤ) (g : ℕ) → IsRowGcd row g → All (λ x. x ≡ pos 0) row → g ≡ 0
zeros_gcd row g h zeros =
    eq-zero_of_zero-dvd (h.greatest 0 (All-weaker (λ (x : ℤ). x ≡ pos 0) (λ (x : ℤ). 0 ∣ unsigned_abs x) (λ x e. rw e (dvd-zero 0)) row zeros))

-- the row after one entry more is divided, where the numbers stand as the code passes them
pub divide_step : (old row : List ℤ) (i : ℕ) (d : ℤ) → i < length old → length row ≡ length old → FitsSigned w128 (get_or row i (pos 0)) → FitsSigned w128 d → pos 0 <ℤ d → row ≡ map (λ x. int_div x (as_passed d)) (take i old) ++ drop i old → set row i (as_passed (int_div (as_passed (get_or row i (pos 0))) (as_passed d))) ≡ map (λ x. int_div x (as_passed d)) (take (i + 1) old) ++ drop (i + 1) old
divide_step old row i d lt len x_fits d_fits above h =
    let x = get_or row i (pos 0) in
    let e : as_passed (int_div (as_passed (get_or row i (pos 0))) (as_passed d)) ≡ int_div x (as_passed d) =
    quot_is w128 x d x_fits d_fits (quot_fits w128 x d x_fits above) ∙ ap (int_div x) (sym (to_z-of_z w128 d d_fits)) in
    let read : x ≡ get_or row i x = get_or_default row i (pos 0) x (omega arith) in
    rw e (map_over_more (λ z. int_div z (as_passed d)) old row i x lt h read)

pub row_gcd_step : (row : List ℤ) (i d : ℕ) (e : ℤ) → i < length row → All Fits row → IsGcd d (unsigned_abs (as_passed (get_or row i (pos 0)))) (unsigned_abs e) → Fits e → (g : ℕ) → IsGcdWith (unsigned_abs (as_passed e)) (drop (i + 1) row) g → IsGcdWith d (drop i row) g
row_gcd_step row i d e lt all h e_fits g rest =
    let x_fits : Fits (get_or row i (pos 0)) = all i (pos 0) lt in
    let both : IsGcd d (unsigned_abs (get_or row i (pos 0))) (unsigned_abs e) = rw (passed (get_or row i (pos 0)) x_fits) at h in
    gcd_with_step d (unsigned_abs e) g i row lt both (rw (passed e e_fits) at rest)

pub size_of_positive : (z : ℤ) → pos 0 ≤ℤ z → z ≡ pos (unsigned_abs z)
size_of_positive (pos n) h = refl
size_of_positive (negsuc n) h = absurd (omega (arith, ints))

abbrev pub IsPrimitiveOf : List ℤ → List ℤ → Type 0
IsPrimitiveOf old new = (g : ℕ) × IsRowGcd old g × (map (λ x. x *ℤ pos g) new ≡ old)

pub divided_row : (old new : List ℤ) (d z : ℤ) → pos 0 ≤ℤ z → d ≡ z → IsRowGcd old (unsigned_abs z) → new ≡ map (λ x. int_div x d) old → IsPrimitiveOf old new
divided_row old new d z above e h made =
    let d_is : d ≡ pos (unsigned_abs z) = e ∙ size_of_positive z above in
    (unsigned_abs z, h, rw (made, d_is) (row_divided_back old (unsigned_abs z) h.common))

pub row_without_divisor : (row : List ℤ) (z : ℤ) → z ≡ pos 0 → IsRowGcd row (unsigned_abs z) → IsPrimitiveOf row row
row_without_divisor row z e h =
    let zero_gcd : IsRowGcd row 0 = rw e at h in
    (0, zero_gcd, zeros_times row zero_gcd.common)

pub not_zeros : (row : List ℤ) (z : ℤ) → pos 0 <ℤ z → IsRowGcd row (unsigned_abs z) → All (λ x. x ≡ pos 0) row → ⊥
not_zeros row z above h zeros = let e = zeros_gcd row (unsigned_abs z) h zeros in omega (arith, ints)
