-- Numbers that stay within a size that fits.
use Rattle.std.proofs.Common.{ℕ, suc, ◌≤◌, ℤ, pos, negsuc, ◌+ℤ◌, ◌*ℤ◌, arith}
use Rattle.std.specs.Int.{int_max}
use Rattle.std.proofs.lemmas.Int.{ints, clamps}
use Rattle.std.proofs.lemmas.Nat.{mul-le}
use Rattle.pc_program_bound.specs.Bound.{IsFit}
use Rattle.pc_program_bound.specs.Parts.{IsAround, size_of}

-- a number within a size that fits
pub fit-around : (share size : ℤ) → IsAround share size → IsFit size → IsFit share
fit-around share size h fits = let low = h.low in let high = h.high in omega (arith, ints)

-- a number times no more than the most
pub around-product : (r : ℤ) (x m : ℕ) → x ≤ m → IsAround (r *ℤ pos x) (size_of r m)
around-product (pos k) x m le = let e = mul-le k x k m (omega arith) le in record { low = omega (arith, ints); high = omega (arith, ints) }
around-product (negsuc k) x m le = let e = mul-le (suc k) x (suc k) m (omega arith) le in record { low = omega (arith, ints); high = omega (arith, ints) }

pub around-max : (a b size : ℤ) → IsAround a size → IsAround b size → IsAround (int_max a b) size
around-max a b size h k = let hl = h.low in let hh = h.high in let kl = k.low in let kh = k.high in
    record { low = omega (arith, ints, clamps); high = omega (arith, ints, clamps) }

pub around-sum : (a b m n : ℤ) → IsAround a m → IsAround b n → IsAround (a +ℤ b) (m +ℤ n)
around-sum a b m n h k = let hl = h.low in let hh = h.high in let kl = k.low in let kh = k.high in
    record { low = omega (arith, ints); high = omega (arith, ints) }

-- for the functions that add shares
pub ruleset greatest = (around-max)

pub ruleset sums = (fit-around, around-sum)
