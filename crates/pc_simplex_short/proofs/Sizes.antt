-- Sizes of numbers, and what is made of small ones.
use Rattle.std.proofs.Common.{◌≡◌, ℕ, ◌+◌, ◌*◌, ◌^◌, ◌<◌, ◌≤◌, List, map, All, arith}
use Rattle.std.specs.Prelude.{ℤ, pos, negsuc, neg_ℤ, ◌+ℤ◌, ◌-ℤ◌, ◌*ℤ◌, nat_abs}
use Rattle.std.proofs.lemmas.Int.{ints}
use Rattle.std.proofs.lemmas.List.Elements.{All-map, All-weaker}
use Rattle.std.proofs.lemmas.Nat.{mul-le}
use Rattle.pc_simplex_short.specs.Kept.{IsWithin}

-- the size of a product
pub size_of_product : (a b : ℤ) → nat_abs (a *ℤ b) ≡ nat_abs a * nat_abs b
size_of_product (pos a) (pos b) = omega (arith, ints)
size_of_product (pos a) (negsuc b) = omega (arith, ints)
size_of_product (negsuc a) (pos b) = omega (arith, ints)
size_of_product (negsuc a) (negsuc b) = omega (arith, ints)

pub size_of_sum : (a b : ℤ) → nat_abs (a +ℤ b) ≤ nat_abs a + nat_abs b
size_of_sum a b = omega (arith, ints)

pub size_of_product-le : (a b : ℤ) (m n : ℕ) → nat_abs a ≤ m → nat_abs b ≤ n → nat_abs (a *ℤ b) ≤ m * n
size_of_product-le a b m n first second = rw (size_of_product a b) (mul-le (nat_abs a) (nat_abs b) m n first second)

-- a weight that is small by a number of at least 1
pub light_weight : (top : ℕ) (w : ℤ) → 1 ≤ top → nat_abs w * top ≤ 2 ^ 69 → nat_abs w < 2 ^ 127
light_weight top w some light =
    let less : nat_abs w * 1 ≤ nat_abs w * top = mul-le (nat_abs w) 1 (nat_abs w) top (omega arith) some in
    omega (arith, less, light)

-- small products of the numbers of two rows, and their difference
pub mixed_fits : (p a t b : ℤ) → nat_abs p ≤ 2 ^ 55 → nat_abs a ≤ 2 ^ 64 → nat_abs t ≤ 2 ^ 70 → nat_abs b ≤ 2 ^ 50
    → (nat_abs (p *ℤ a) < 2 ^ 127) × (nat_abs (t *ℤ b) < 2 ^ 127) × (nat_abs (p *ℤ a -ℤ t *ℤ b) < 2 ^ 127)
mixed_fits p a t b first second third fourth =
    let own = size_of_product-le p a (2 ^ 55) (2 ^ 64) first second in
    let others = size_of_product-le t b (2 ^ 70) (2 ^ 50) third fourth in
    (omega (arith, own), omega (arith, others), omega (arith, ints, own, others))

pub negated_small : (numbers : List ℤ) → All (IsWithin 50) numbers → All (IsWithin 50) (map neg_ℤ numbers)
negated_small numbers small =
    All-map (IsWithin 50) neg_ℤ numbers (All-weaker (IsWithin 50) (λ x. IsWithin 50 (neg_ℤ x)) (λ x h. omega (arith, ints, h)) numbers small)

-- a value less so many times an entry
pub lowered_fits : (value entry : ℤ) (range : ℕ) → nat_abs value ≤ 2 ^ 50 → nat_abs entry ≤ 2 ^ 55 → range < 2 ^ 64
    → (nat_abs (entry *ℤ pos range) < 2 ^ 127) × (nat_abs (value -ℤ entry *ℤ pos range) < 2 ^ 127)
lowered_fits value entry range first second third =
    let taken = size_of_product-le entry (pos range) (2 ^ 55) (2 ^ 64) second (omega (arith, ints, third)) in
    (omega (arith, taken), omega (arith, ints, taken, first))

-- a number times a gain that a bound keeps
pub product_small : (bits top : ℕ) (w g : ℤ) → nat_abs w * top ≤ 2 ^ bits → nat_abs g ≤ top → IsWithin bits (w *ℤ g)
product_small bits top w g light low =
    let less : nat_abs w * nat_abs g ≤ nat_abs w * top = mul-le (nat_abs w) (nat_abs g) (nat_abs w) top (omega arith) low in
    rw (size_of_product w g) (omega (arith, less, light))

-- a weight of few bits, by a number of at least 1
pub narrow_weight : (top : ℕ) (w : ℤ) → 1 ≤ top → nat_abs w * top ≤ 2 ^ 60 → IsWithin 60 w
narrow_weight top w some light =
    let less : nat_abs w * 1 ≤ nat_abs w * top = mul-le (nat_abs w) 1 (nat_abs w) top (omega arith) some in
    omega (arith, less, light)
