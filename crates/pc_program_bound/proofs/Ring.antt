-- Laws of the product of integers.
use Rattle.std.proofs.Common.{◌≡◌, ℕ, zero, suc, ◌+◌, ◌*◌, ◌≤◌, ◌<◌, ap, ◌∙◌, arith}
use Rattle.std.specs.Prelude.{ℤ, pos, negsuc, ◌+ℤ◌, ◌*ℤ◌, ◌≤ℤ◌, ◌<ℤ◌}
use Rattle.std.specs.Int.{int_div_euclid}
use lib.IntN.{suc_ℤ-*ℤ, +ℤ_comm, *ℤ_comm}
use Rattle.std.proofs.lemmas.Int.{ints, by_lt_z}
use Rattle.std.proofs.Math.Nat.{mul-le-mul_left}
use borrow.Author.Differences.{up, down, same_in, le_out, at_most_in, sum_is_lem, product_is}

times : (k m n : ℕ) → m ≡ n → k * m ≡ k * n
times k m n e = ap (λ x. k * x) e

pub mul-add : (a b c : ℤ) → a *ℤ (b +ℤ c) ≡ a *ℤ b +ℤ a *ℤ c
mul-add a b c =
    let sum = sum_is_lem b c in
    let left = product_is a (b +ℤ c) in
    let first = product_is a b in
    let second = product_is a c in
    let whole = sum_is_lem (a *ℤ b) (a *ℤ c) in
    same_in (a *ℤ (b +ℤ c)) (a *ℤ b +ℤ a *ℤ c)
    (omega (arith, left, first, second, whole, times (up a) _ _ sum, times (down a) _ _ sum))

pub mul_assoc : (a b c : ℤ) → (a *ℤ b) *ℤ c ≡ a *ℤ (b *ℤ c)
mul_assoc a b c =
    let ab = product_is a b in
    let bc = product_is b c in
    let left = product_is (a *ℤ b) c in
    let right = product_is a (b *ℤ c) in
    same_in ((a *ℤ b) *ℤ c) (a *ℤ (b *ℤ c))
    (omega (
      arith,
      left,
      right,
      times (up c) _ _ ab.0,
      times (down c) _ _ ab.0,
      times (up c) _ _ ab.1,
      times (down c) _ _ ab.1,
      times (up a) _ _ bc.0,
      times (down a) _ _ bc.0,
      times (up a) _ _ bc.1,
      times (down a) _ _ bc.1,
    ))

-- a factor that is not negative keeps the order
pub mul_mono : (c a b : ℤ) → pos 0 ≤ℤ c → a ≤ℤ b → (c *ℤ a) ≤ℤ (c *ℤ b)
mul_mono (pos n) a b positive below =
    let left = product_is (pos n) a in
    let right = product_is (pos n) b in
    let more : n * (up a + down b) ≤ n * (up b + down a) = mul-le-mul_left n (le_out a b below) in
    at_most_in (pos n *ℤ a) (pos n *ℤ b) (omega (arith, left, right, more))
mul_mono (negsuc n) a b positive below = absurd (omega (arith, ints, positive))

-- and one that is not positive turns it round
pub mul_anti : (c a b : ℤ) → c ≤ℤ pos 0 → a ≤ℤ b → (c *ℤ b) ≤ℤ (c *ℤ a)
mul_anti (pos zero) a b negative below = omega (arith, ints)
mul_anti (pos (suc n)) a b negative below = absurd (omega (arith, ints, negative))
mul_anti (negsuc n) a b negative below =
    let left = product_is (negsuc n) a in
    let right = product_is (negsuc n) b in
    let more : suc n * (up a + down b) ≤ suc n * (up b + down a) = mul-le-mul_left (suc n) (le_out a b below) in
    at_most_in (negsuc n *ℤ b) (negsuc n *ℤ a) (omega (arith, left, right, more))

-- a factor drawn out of a count
pub mul-pos : (r : ℤ) (k d : ℕ) → r *ℤ pos (k * d) ≡ pos d *ℤ (r *ℤ pos k)
mul-pos r k d =
    let whole = product_is r (pos (k * d)) in
    let inner = product_is r (pos k) in
    let outer = product_is (pos d) (r *ℤ pos k) in
    same_in (r *ℤ pos (k * d)) (pos d *ℤ (r *ℤ pos k)) (omega (arith, whole, outer, times d _ _ inner.0, times d _ _ inner.1))

-- a number whose multiple is at most another is at most the quotient, rounded down
pub le-div_euclid : (v b d : ℤ) → pos 0 <ℤ d → (d *ℤ v) ≤ℤ b → v ≤ℤ int_div_euclid b d
le-div_euclid v b (negsuc n) above below = absurd (omega (arith, ints, above))
le-div_euclid v b (pos n) above below = by_lt_z (int_div_euclid b (pos n)) v (λ less. absurd (too_much (int_div_euclid b (pos n)) less (remains b))) (λ most. most)
  where
    -- n times the quotient and n more is above the dividend
    remains : (b : ℤ) → n * down (int_div_euclid b (pos n)) + up b < n * up (int_div_euclid b (pos n)) + n + down b
    remains (pos a) = let some : 0 < n = omega (arith, ints, above) in omega arith
    remains (negsuc a) = let some : 0 < n = omega (arith, ints, above) in omega arith

    too_much : (q : ℤ) → q <ℤ v → n * down q + up b < n * up q + n + down b → ⊥
    too_much q less rest =
        let product = product_is (pos n) v in
        let within = le_out (pos n *ℤ v) b below in
        let more : n * (up q + down v + 1) ≤ n * (up v + down q) = mul-le-mul_left n (omega (arith, ints)) in
        omega (arith, product, within, more, rest)

-- a number taken once more
pub mul-more : (x : ℤ) (n : ℕ) → x *ℤ pos (suc n) ≡ x +ℤ x *ℤ pos n
mul-more x n = *ℤ_comm x (pos (suc n)) ∙ suc_ℤ-*ℤ (pos n) x ∙ +ℤ_comm (pos n *ℤ x) x ∙ ap (λ rest. x +ℤ rest) (*ℤ_comm (pos n) x)
