-- Products and differences of the numbers of fractions, as they are passed.
use Rattle.std.proofs.Common.{◌≡◌, ℕ, ◌*◌, ◌^◌, ◌<◌, ◌≤◌, ℤ, pos, negsuc, ◌-ℤ◌, ◌*ℤ◌, ◌≤ℤ◌, ◌<ℤ◌, FitsSigned, to_z, of_z, refl, arith}
use Rattle.std.specs.Prelude.{nat_abs}
use Rattle.std.specs.Int.{w128}
use Rattle.std.proofs.lemmas.Int.{ints, fits_signed_from_abs}
use Rattle.std.proofs.lemmas.Nat.{mul-le}
use Rattle.pc_proof.proofs.Fractions.{mul_above}

pub as_it_is : (a : ℤ) → nat_abs a < 2 ^ 127 → to_z w128 (of_z w128 a) ≡ a
as_it_is a fits = omega (arith, ints)

size_of_product : (a b : ℤ) → nat_abs (a *ℤ b) ≡ nat_abs a * nat_abs b
size_of_product (pos a) (pos b) = omega (arith, ints)
size_of_product (pos a) (negsuc b) = omega (arith, ints)
size_of_product (negsuc a) (pos b) = omega (arith, ints)
size_of_product (negsuc a) (negsuc b) = omega (arith, ints)

-- a product is within that of two limits
pub product_within : (a b : ℤ) (m n : ℕ) → nat_abs a ≤ m → nat_abs b ≤ n → nat_abs (a *ℤ b) ≤ m * n
product_within a b m n first second = rw (size_of_product a b) (mul-le (nat_abs a) (nat_abs b) m n first second)

abbrev as_passed : ℤ → ℤ
as_passed z = to_z w128 (of_z w128 z)

-- a product as it is made of numbers that are passed
abbrev made : ℤ → ℤ → ℤ
made a b = as_passed a *ℤ as_passed b

module _ (a b : ℤ) (m n : ℕ) (first : nat_abs a ≤ m) (second : nat_abs b ≤ n) (small_first : m < 2 ^ 127) (small_second : n < 2 ^ 127) (small : m * n < 2 ^ 127) where
  made_is : made a b ≡ a *ℤ b
  made_is = rw (as_it_is a (omega (arith, first, small_first)), as_it_is b (omega (arith, second, small_second))) refl

  within : nat_abs (a *ℤ b) ≤ m * n
  within = product_within a b m n first second

  made_fits : FitsSigned w128 (made a b)
  made_fits = rw made_is (fits_signed_from_abs w128 (a *ℤ b) (omega (arith, within, small)))

  product_is : as_passed (made a b) ≡ a *ℤ b
  product_is = rw made_is (as_it_is (a *ℤ b) (omega (arith, within, small)))

  product_small : nat_abs (as_passed (made a b)) ≤ m * n
  product_small = rw product_is within

-- ---- a number of a cell times a denominator

module _ (den n : ℤ) (positive : pos 0 <ℤ den) (few : den ≤ℤ pos (3 * 10 ^ 16)) (small : nat_abs n ≤ 2 ^ 63) where
  den_within : nat_abs den ≤ 3 * 10 ^ 16
  den_within = omega (arith, ints, positive, few)

  pub scaled_fits : FitsSigned w128 (made n den)
  scaled_fits = made_fits n den (2 ^ 63) (3 * 10 ^ 16) small den_within (omega arith) (omega arith) (omega arith)

  pub scaled_is : as_passed (made n den) ≡ n *ℤ den
  scaled_is = product_is n den (2 ^ 63) (3 * 10 ^ 16) small den_within (omega arith) (omega arith) (omega arith)

  pub scaled_small : nat_abs (as_passed (made n den)) ≤ 10 ^ 36
  scaled_small =
      let both = product_small n den (2 ^ 63) (3 * 10 ^ 16) small den_within (omega arith) (omega arith) (omega arith) in
      omega (arith, both)

-- ---- observed rows beside a ratio

module _ (num den sum : ℤ) (count : ℕ) (positive : pos 0 <ℤ den) (few : den ≤ℤ pos (3 * 10 ^ 16)) (small : nat_abs num ≤ 3 * 10 ^ 31) (small_sum : nat_abs sum ≤ 10 ^ 21) (few_rows : count ≤ 10 ^ 6) where
  sum_within : nat_abs (den *ℤ sum) ≤ 30 * 10 ^ 36
  sum_within =
      let size : nat_abs den ≤ 3 * 10 ^ 16 = omega (arith, ints, positive, few) in
      let both = product_within den sum (3 * 10 ^ 16) (10 ^ 21) size small_sum in
      omega (arith, both)

  count_within : nat_abs (num *ℤ pos count) ≤ 30 * 10 ^ 36
  count_within =
      let size : nat_abs (pos count) ≤ 10 ^ 6 = omega (arith, ints, few_rows) in
      let both = product_within num (pos count) (3 * 10 ^ 31) (10 ^ 6) small size in
      omega (arith, both)

  -- how far the observed sum is above the ratio, before it is passed
  abbrev above_made : ℤ
  above_made = as_passed (as_passed den *ℤ as_passed sum) -ℤ as_passed (as_passed num *ℤ as_passed (pos count))

  above_as : above_made ≡ den *ℤ sum -ℤ num *ℤ pos count
  above_as =
      let den_as : as_passed den ≡ den = omega (arith, ints, positive, few) in
      let sum_as : as_passed sum ≡ sum = omega (arith, ints, small_sum) in
      let num_as : as_passed num ≡ num = omega (arith, ints, small) in
      let count_as : as_passed (pos count) ≡ pos count = omega (arith, ints, few_rows) in
      rw (den_as, sum_as, num_as, count_as, as_it_is (den *ℤ sum) (omega (arith, sum_within)), as_it_is (num *ℤ pos count) (omega (arith, count_within))) refl

  above_small : nat_abs (den *ℤ sum -ℤ num *ℤ pos count) ≤ 60 * 10 ^ 36
  above_small = omega (arith, ints, sum_within, count_within)

  pub count_fits : FitsSigned w128 (made num (pos count))
  count_fits = made_fits num (pos count) (3 * 10 ^ 31) (10 ^ 6) small (omega (arith, ints, few_rows)) (omega arith) (omega arith) (omega arith)

  pub sum_fits : FitsSigned w128 (made den sum)
  sum_fits = made_fits den sum (3 * 10 ^ 16) (10 ^ 21) (omega (arith, ints, positive, few)) small_sum (omega arith) (omega arith) (omega arith)

  pub above_fits : FitsSigned w128 above_made
  above_fits = rw above_as (fits_signed_from_abs w128 (den *ℤ sum -ℤ num *ℤ pos count) (omega (arith, above_small)))

  pub observed_is : as_passed above_made ≡ den *ℤ sum -ℤ num *ℤ pos count
  observed_is = rw above_as (as_it_is (den *ℤ sum -ℤ num *ℤ pos count) (omega (arith, above_small)))

  pub observed_small : nat_abs (as_passed above_made) ≤ 60 * 10 ^ 36
  observed_small = rw observed_is above_small

-- ---- the parts of a ratio over so many rows

module _ (num rows : ℤ) (small : nat_abs num ≤ 3 * 10 ^ 31) (some : pos 1 ≤ℤ rows) (few_rows : rows ≤ℤ pos (10 ^ 6)) where
  rows_within : nat_abs rows ≤ 10 ^ 6
  rows_within = omega (arith, ints, some, few_rows)

  pub over_fits : FitsSigned w128 (made num rows)
  over_fits = made_fits num rows (3 * 10 ^ 31) (10 ^ 6) small rows_within (omega arith) (omega arith) (omega arith)

  pub over_is : as_passed (made num rows) ≡ num *ℤ rows
  over_is = product_is num rows (3 * 10 ^ 31) (10 ^ 6) small rows_within (omega arith) (omega arith) (omega arith)

  pub over_small : nat_abs (as_passed (made num rows)) ≤ 30 * 10 ^ 36
  over_small =
      let both = product_small num rows (3 * 10 ^ 31) (10 ^ 6) small rows_within (omega arith) (omega arith) (omega arith) in
      omega (arith, both)

  -- .. and above 0 where the part is
  pub over_positive : pos 0 <ℤ num → pos 0 <ℤ as_passed (made num rows)
  over_positive positive = rw over_is (mul_above num rows positive (omega (arith, ints, some)))
