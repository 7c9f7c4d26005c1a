-- A place of what two sets share is one of both.
use Rattle.std.proofs.Common.{◌≡◌, ℕ, zero, suc, ◌<◌, ◌==◌, ◌&&◌, ℤ, pos, negsuc, refl, arith, min}
use Rattle.std.specs.Int.{bit_at}
use Rattle.std.specs.Int.Bits.{bit_and}
use Rattle.std.proofs.lemmas.Nat.Bits.{bit_at_and, bit_at-lt}
use Rattle.pc_model.specs.Places.{is_place_of}

shared_bit : (x y z : ℕ) → x < 2 → y < 2 → z ≡ min x y → (z == 1) ≡ ((x == 1) && (y == 1))
shared_bit zero zero z p q e = rw e refl
shared_bit zero (suc zero) z p q e = rw e refl
shared_bit (suc zero) zero z p q e = rw e refl
shared_bit (suc zero) (suc zero) z p q e = rw e refl
shared_bit (suc (suc x)) y z p q e = absurd (omega arith)
shared_bit zero (suc (suc y)) z p q e = absurd (omega arith)
shared_bit (suc zero) (suc (suc y)) z p q e = absurd (omega arith)

pub shared_place : (a b : ℕ) (n : ℤ) → is_place_of (bit_and a b) n ≡ (is_place_of a n && is_place_of b n)
shared_place a b (pos i) = shared_bit (bit_at a i) (bit_at b i) (bit_at (bit_and a b) i) (bit_at-lt a i) (bit_at-lt b i) (bit_at_and a b i)
shared_place a b (negsuc n) = refl
