-- How large a sum of so many numbers of 64 bits can be.
use Rattle.std.proofs.Common.{ℕ, suc, ◌+◌, ◌*◌, ◌^◌, ◌≤◌, ℤ, pos, negsuc, ◌+ℤ◌, ◌*ℤ◌, nat_abs, arith}
use Rattle.std.proofs.lemmas.Int.{ints}
use Rattle.std.proofs.lemmas.Nat.{mul-le}

-- a number so many times
pub product_is_small : (number : ℤ) (times : ℕ) → nat_abs number ≤ 2 ^ 63 → nat_abs (number *ℤ pos times) ≤ times * 2 ^ 63
product_is_small (pos k) times small = let e = mul-le k times (2 ^ 63) times small (omega arith) in omega (arith, ints)
product_is_small (negsuc k) times small = let e = mul-le (suc k) times (2 ^ 63) times small (omega arith) in omega (arith, ints)

-- and added to a sum
pub sum_is_small : (sum number : ℤ) (count times : ℕ) → nat_abs sum ≤ count * 2 ^ 63 → nat_abs number ≤ 2 ^ 63 → nat_abs (sum +ℤ (number *ℤ pos times)) ≤ (count + times) * 2 ^ 63
sum_is_small sum number count times small within = let e = product_is_small number times within in omega (arith, ints)
