-- The places of what one set leaves of another, and a place of a set.
use Rattle.std.proofs.Common.{◌≡◌, ℕ, zero, suc, ◌+◌, ◌/◌, ◌%◌, ◌<◌, ◌≤◌, ◌==◌, ◌&&◌, not, true, ℤ, pos, negsuc, refl, ◌∙◌, arith, eqb-true, min}
use Rattle.std.specs.Int.{bit_at}
use Rattle.std.specs.Int.Bits.{bit_and}
use Rattle.std.proofs.lemmas.Nat.Bits.{bit_at_and, bit_at_xor, bit_at-lt, bit_at-suc, bit_at_lowest, bit_at-zero}
use Rattle.pc_model.specs.Places.{is_place_of, places_outside}

outside_bit : (x y z u : ℕ) → x < 2 → y < 2 → z ≡ min x y → u ≡ (x + z) % 2 → (u == 1) ≡ ((x == 1) && not (y == 1))
outside_bit zero zero z u p q e f = rw (f, e) refl
outside_bit zero (suc zero) z u p q e f = rw (f, e) refl
outside_bit (suc zero) zero z u p q e f = rw (f, e) refl
outside_bit (suc zero) (suc zero) z u p q e f = rw (f, e) refl
outside_bit (suc (suc x)) y z u p q e f = absurd (omega arith)
outside_bit zero (suc (suc y)) z u p q e f = absurd (omega arith)
outside_bit (suc zero) (suc (suc y)) z u p q e f = absurd (omega arith)

-- a place of what is left is one of the first alone
pub outside_place : (a b : ℕ) (n : ℤ) → is_place_of (places_outside a b) n ≡ (is_place_of a n && not (is_place_of b n))
outside_place a b (pos i) =
    outside_bit (bit_at a i) (bit_at b i) (bit_at (bit_and a b) i) (bit_at (places_outside a b) i) (bit_at-lt a i) (bit_at-lt b i) (bit_at_and a b i)
    (bit_at_xor a (bit_and a b) i)
outside_place a b (negsuc n) = refl

some_bit : (k n : ℕ) → 0 < n → n ≤ k → (i : ℕ) × (bit_at n i ≡ 1)
some_bit zero n some small = absurd (omega arith)
some_bit (suc k) n some small = by_half (n % 2) (λ even. some_bit k (n / 2) (omega arith) (omega arith)) refl
  where
    by_half : (d : ℕ) → (n % 2 ≡ 0 → (i : ℕ) × (bit_at (n / 2) i ≡ 1)) → n % 2 ≡ d → (i : ℕ) × (bit_at n i ≡ 1)
    by_half zero half even = let found = half even in (suc found.0, bit_at-suc n found.0 ∙ found.1)
    by_half (suc d) half odd = (0, omega (arith, bit_at_lowest n))

-- a set that is not empty has a place
pub some_place : (bits : ℕ) → 0 < bits → (n : ℤ) × (is_place_of bits n ≡ true)
some_place bits some = let found = some_bit bits bits some (omega arith) in (pos found.0, rw found.1 refl)

-- and one that has a place is not empty
pub some_from_place : (bits : ℕ) (n : ℤ) → is_place_of bits n ≡ true → 0 < bits
some_from_place zero (pos i) h = absurd (omega (arith, bit_at-zero i, eqb-true (bit_at 0 i) 1 h))
some_from_place zero (negsuc n) h = absurd (cc)
some_from_place (suc bits) n h = omega arith
