-- Sums of numbers and differences of products, as they are passed on.
use Rattle.std.proofs.Common.{◌≡◌, ℕ, ◌*◌, ◌^◌, ◌<◌, ◌≤◌, FitsSigned, to_z, of_z, arith}
use Rattle.std.specs.Prelude.{ℤ, nat_abs, ◌+ℤ◌, ◌-ℤ◌, ◌*ℤ◌}
use Rattle.std.specs.Int.{w128}
use Rattle.std.proofs.lemmas.Int.{ints}
use Rattle.pc_simplex_short.proofs.Sizes.{size_of_product-le}

pub sum_is : (a b x y : ℤ) → a ≡ x → b ≡ y → nat_abs x < 2 ^ 126 → nat_abs y < 2 ^ 126 →
    to_z w128 (of_z w128 (to_z w128 (of_z w128 a) +ℤ to_z w128 (of_z w128 b))) ≡ x +ℤ y
sum_is a b x y e d small also = omega (arith, ints)

pub as_it_is : (a : ℤ) → nat_abs a < 2 ^ 127 → to_z w128 (of_z w128 a) ≡ a
as_it_is a fits = omega (arith, ints)

-- two numbers that fit, and whose product is small
pub record IsSmallProduct (a b : ℤ) : Type 0 where
  pub first : nat_abs a < 2 ^ 127
  pub second : nat_abs b < 2 ^ 127
  pub product : nat_abs (a *ℤ b) < 2 ^ 126

pub small_product : (a b : ℤ) (m n : ℕ) → nat_abs a ≤ m → nat_abs b ≤ n → m < 2 ^ 127 → n < 2 ^ 127 → m * n < 2 ^ 126 → IsSmallProduct a b
small_product a b m n first second few also small =
    let product = size_of_product-le a b m n first second in
    record { first = omega (arith, first, few); second = omega (arith, second, also); product = omega (arith, product, small) }

pub product_fits : (a b : ℤ) → IsSmallProduct a b → FitsSigned w128 (to_z w128 (of_z w128 a) *ℤ to_z w128 (of_z w128 b))
product_fits a b small =
    let product = small.product in
    rw (as_it_is a small.first, as_it_is b small.second) (omega (arith, ints, product))

pub product_is : (a b : ℤ) → IsSmallProduct a b → to_z w128 (of_z w128 (to_z w128 (of_z w128 a) *ℤ to_z w128 (of_z w128 b))) ≡ a *ℤ b
product_is a b small =
    let product = small.product in
    rw (as_it_is a small.first, as_it_is b small.second) (omega (arith, ints, product))

module _ (a b c d : ℤ) (left : IsSmallProduct a b) (right : IsSmallProduct c d) where
  pub difference_fits : FitsSigned w128 (to_z w128 (of_z w128 (to_z w128 (of_z w128 a) *ℤ to_z w128 (of_z w128 b))) -ℤ to_z w128 (of_z w128 (to_z w128 (of_z w128 c) *ℤ to_z w128 (of_z w128 d))))
  difference_fits =
      let first = left.product in
      let second = right.product in
      rw (as_it_is a left.first, as_it_is b left.second, as_it_is c right.first, as_it_is d right.second) (omega (arith, ints, first, second))

  pub difference_is : to_z w128 (of_z w128 (to_z w128 (of_z w128 (to_z w128 (of_z w128 a) *ℤ to_z w128 (of_z w128 b))) -ℤ to_z w128 (of_z w128 (to_z w128 (of_z w128 c) *ℤ to_z w128 (of_z w128 d))))) ≡ a *ℤ b -ℤ c *ℤ d
  difference_is =
      let first = left.product in
      let second = right.product in
      rw (as_it_is a left.first, as_it_is b left.second, as_it_is c right.first, as_it_is d right.second) (omega (arith, ints, first, second))
