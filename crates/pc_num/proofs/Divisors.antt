-- Greatest common divisors and lowest terms.
use Rattle.std.proofs.Common.{◌≡◌, ◌≤◌, ◌<◌, ℕ, zero, suc, ◌+◌, ◌*◌, ◌/◌, ◌%◌, arith, refl, subst}
use Rattle.std.proofs.Math.Nat.{one-dvd, dvd-mul_left, dvd-mul_right, dvd-mul_left_of_dvd, dvd-add_iff_right, dvd-mod_iff, pos_of_dvd_of_pos, div-mul_cancel, dvd_of_mul-dvd-mul_right, mul-dvd-mul_right, eq_of_mul-eq-mul_right, mul_comm, mul-lt-mul_of_pos_right}
use Rattle.std.proofs.lemmas.Nat.{mod_below, le-div, div-add-mod'}
use Rattle.std.proofs.lemmas.Nat.Gcd.{dvd_refl, dvd-zero, dvd_trans, dvd_antisymm, le_of_dvd, IsGcd-from_zero, IsGcd-swap, same_from_IsGcd}
use Rattle.std.specs.Int.{◌∣◌, IsGcd}
use Rattle.pc_num.specs.Fractions.{IsReducedOf}

pub gcd_below : (a b g m : ℕ) → IsGcd a b g → a < m → b < m → g < m
gcd_below zero b g m h p q = let e : g ≡ b = dvd_antisymm h.1 (h.2 b (dvd-zero b) (dvd_refl b)) in omega arith
gcd_below (suc a) b g m h p q = let some : zero < suc a = omega arith in omega (arith, le_of_dvd some h.0)

pub multiple_split : (a b k q r : ℕ) → q * b + r ≡ a → a * k ≡ q * (b * k) + r * k
multiple_split a b k q r e = rw (← e) (omega arith)

rest_divided : (a b k x : ℕ) → x ∣ a * k → x ∣ b * k → x ∣ (a % b) * k
rest_divided a b k x p q =
    let e = multiple_split a b k (a / b) (a % b) (div-add-mod' a b) in
    (dvd-add_iff_right x (dvd-mul_left_of_dvd x q (a / b))).1 (rw e at p)

-- what divides a multiple of both divides that multiple of their greatest common divisor, as Euclid's algorithm shows
dvd-gcd-mul : (fuel a b g k x : ℕ) → b ≤ fuel → IsGcd a b g → x ∣ a * k → x ∣ b * k → x ∣ g * k
dvd-gcd-mul fuel a zero g k x le h p q =
    let e : g ≡ a = same_from_IsGcd a zero g a h (IsGcd-from_zero a zero refl) in rw e p
dvd-gcd-mul zero a (suc b) g k x le h p q = absurd (omega arith)
dvd-gcd-mul (suc fuel) a (suc b) g k x le h p q =
    let next : IsGcd (suc b) (a % suc b) g = (h.1, (dvd-mod_iff g h.1).1 h.0, λ d r s. h.2 d ((dvd-mod_iff d r).0 s) r) in
    let some : zero < suc b = omega arith in
    dvd-gcd-mul fuel (suc b) (a % suc b) g k x (omega (arith, mod_below a (suc b) some)) next q (rest_divided a (suc b) k x p q)

-- what divides a product and has nothing in common with a factor divides the other
pub gauss : (a b c : ℕ) → IsGcd a b 1 → a ∣ b * c → a ∣ c
gauss a b c h p =
    let r : a ∣ 1 * c = dvd-gcd-mul b a b 1 c a (omega arith) h (dvd-mul_right a c) p in
    let e : 1 * c ≡ c = omega arith in
    rw e at r

shares_equal : (a b g p q : ℕ) → p * g ≡ a → q * g ≡ b → p * b ≡ a * q
shares_equal a b g p q e f = rw (← e, ← f) (omega arith)

pub share_above : (b g : ℕ) → zero < b → g ∣ b → zero < b / g
share_above b g some h =
    let least : 1 * g ≤ b = omega (arith, le_of_dvd some h) in
    omega (arith, le-div 1 b g (pos_of_dvd_of_pos h some) least)

pub reduced_share : (a b g : ℕ) → zero < b → IsGcd a b g → IsReducedOf a b (a / g) (b / g)
reduced_share a b g some h =
    let left : a / g * g ≡ a = div-mul_cancel g h.0 in
    let right : b / g * g ≡ b = div-mul_cancel g h.1 in
    let common : (d : ℕ) → d ∣ a / g → d ∣ b / g → d ∣ 1 =
    λ d p q. let both : d * g ∣ g = h.2 (d * g) (rw left at (mul-dvd-mul_right d p g)) (rw right at (mul-dvd-mul_right d q g)) in
    let e : g ≡ 1 * g = omega arith in
    let times : d * g ∣ 1 * g = subst (λ (n : ℕ). d * g ∣ n) e both in
    dvd_of_mul-dvd-mul_right d (pos_of_dvd_of_pos h.1 some) times in
    record {
      above = share_above b g some h.1;
      reduced = (one-dvd _, one-dvd _, common);
      equal = shares_equal a b g (a / g) (b / g) left right;
    }

-- two fractions in lowest terms that are equal are the same
pub same_reduced : (n d p q : ℕ) → zero < q → IsGcd n d 1 → IsGcd p q 1 → n * q ≡ p * d → (n ≡ p) × (d ≡ q)
same_reduced n d p q some h k e =
    let one_way : d ∣ q = gauss d n q (IsGcd-swap n d 1 h) (rw e (dvd-mul_left d p)) in
    let back : q ∣ d = gauss q p d (IsGcd-swap p q 1 k) (rw (← e) (dvd-mul_left q n)) in
    let dens : d ≡ q = dvd_antisymm one_way back in
    (eq_of_mul-eq-mul_right q some n p (rw dens at e), dens)

cross_out : (a b n d p q : ℕ) → n * b ≡ a * d → p * b ≡ a * q → (n * q) * b ≡ (p * d) * b
cross_out a b n d p q e f =
    let l : (n * q) * b ≡ q * (n * b) = omega arith in
    let r : (p * d) * b ≡ d * (p * b) = omega arith in
    rw (l, r, e, f) (omega arith)

pub reduced_is_one : (a b n d p q : ℕ) → zero < b → IsReducedOf a b n d → IsReducedOf a b p q → (n ≡ p) × (d ≡ q)
reduced_is_one a b n d p q some h k =
    same_reduced n d p q k.above h.reduced k.reduced (eq_of_mul-eq-mul_right b some (n * q) (p * d) (cross_out a b n d p q h.equal k.equal))

coprime_parts : (a b x y : ℕ) → IsGcd a b 1 → x ∣ a → y ∣ b → IsGcd x y 1
coprime_parts a b x y h p q = (one-dvd x, one-dvd y, λ d r s. h.2 d (dvd_trans d r p) (dvd_trans d s q))

coprime-mul : (x y z : ℕ) → IsGcd x z 1 → IsGcd y z 1 → IsGcd (x * y) z 1
coprime-mul x y z h k =
    (one-dvd _, one-dvd z, λ d p q. k.2 d (gauss d x y (one-dvd d, one-dvd x, λ e r s. h.2 e s (dvd_trans e r q)) p) q)

factors_regrouped : (a b c d x y z w : ℕ) → x * d ≡ a * w → z * b ≡ c * y → (x * z) * (b * d) ≡ (a * c) * (y * w)
factors_regrouped a b c d x y z w e f =
    let l : (x * z) * (b * d) ≡ (x * d) * (z * b) = omega arith in
    let r : (a * c) * (y * w) ≡ (a * w) * (c * y) = omega arith in
    rw (l, r, e, f) refl

-- a product of reduced fractions a / b and c / d, where each top has lost what it has in common with the other's bottom
pub product_reduced : (a b c d x y z w : ℕ) → IsGcd a b 1 → IsGcd c d 1 → IsReducedOf a d x w → IsReducedOf c b z y → IsReducedOf (a * c) (b * d) (x * z) (y * w)
product_reduced a b c d x y z w h k left right =
    let xa : x ∣ a = gauss x w a left.reduced (rw (mul_comm w a, ← left.equal) (dvd-mul_right x d)) in
    let zc : z ∣ c = gauss z y c right.reduced (rw (mul_comm y c, ← right.equal) (dvd-mul_right z b)) in
    let wd : w ∣ d = gauss w x d (IsGcd-swap x w 1 left.reduced) (rw left.equal (dvd-mul_left w a)) in
    let yb : y ∣ b = gauss y z b (IsGcd-swap z y 1 right.reduced) (rw right.equal (dvd-mul_left y c)) in
    let top_left = coprime-mul x z y (coprime_parts a b x y h xa yb) right.reduced in
    let top_right = coprime-mul x z w left.reduced (coprime_parts c d z w k zc wd) in
    let y_above = right.above in
    let w_above = left.above in
    record {
      above = let some : zero * w < y * w = mul-lt-mul_of_pos_right y_above w_above in omega arith;
      reduced = IsGcd-swap _ _ 1 (coprime-mul y w (x * z) (IsGcd-swap _ _ 1 top_left) (IsGcd-swap _ _ 1 top_right));
      equal = factors_regrouped a b c d x y z w left.equal right.equal;
    }

pub gcd_above : (a b g : ℕ) → IsGcd a b g → zero < b → zero < g
gcd_above a b g h some = pos_of_dvd_of_pos h.1 some
