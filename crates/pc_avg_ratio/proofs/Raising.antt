-- What is left over, spread over the fewest rows: sizes, and the numbers as they are passed on.
use Rattle.std.proofs.Common.{◌≡◌, ◌*◌, ◌^◌, ◌≤◌, to_z, of_z, arith}
use Rattle.std.specs.Prelude.{ℤ, pos, nat_abs, ◌+ℤ◌, ◌*ℤ◌, ◌≤ℤ◌, ◌<ℤ◌}
use Rattle.std.specs.Int.{w128}
use Rattle.std.proofs.lemmas.Int.{ints, clamps}
use Rattle.pc_simplex_short.proofs.Sizes.{size_of_product-le}
use Rattle.pc_simplex_tableau.proofs.Products.{mul_positive}
use Rattle.pc_avg_ratio.specs.declared.fractional.Fractional.{Fractional}
use Rattle.pc_avg_ratio.specs.Fractional.{most_rows, most_sum}
use Rattle.pc_avg_ratio.specs.Highest.{fewest_rows}
use Rattle.pc_avg_ratio.proofs.PassedProducts.{small_product, product_is}

module _ (f : Fractional) (few : f.count ≤ 1_000_000) where
  fewest_some : pos 1 ≤ℤ fewest_rows f
  fewest_some = omega (arith, ints, clamps)

  pub fewest_small : nat_abs (fewest_rows f) ≤ 1_000_000
  fewest_small = omega (arith, ints, clamps, few)

  module _ (num left : ℤ) (small : nat_abs num ≤ most_sum) (small_left : nat_abs left ≤ 2 * 10 ^ 37) where
    pub top_small : nat_abs (num *ℤ fewest_rows f +ℤ left) ≤ 3 * 10 ^ 37
    top_small =
        let product = size_of_product-le num (fewest_rows f) most_sum 1_000_000 small fewest_small in
        omega (arith, ints, product, small_left)

    pub top_passed : to_z w128 (of_z w128 (to_z w128 (of_z w128 (to_z w128 (of_z w128 num) *ℤ to_z w128 (of_z w128 (fewest_rows f)))) +ℤ to_z w128 (of_z w128 left))) ≡ num *ℤ fewest_rows f +ℤ left
    top_passed =
        let product = size_of_product-le num (fewest_rows f) most_sum 1_000_000 small fewest_small in
        rw (product_is num (fewest_rows f) (small_product num (fewest_rows f) most_sum 1_000_000 small fewest_small (omega arith) (omega arith) (omega arith)))
        (omega (arith, ints, product, small_left))

  module _ (den : ℤ) (positive : pos 0 <ℤ den) (small : den ≤ℤ pos most_rows) where
    pub bottom_some : pos 0 <ℤ (den *ℤ fewest_rows f)
    bottom_some = mul_positive den (fewest_rows f) positive (omega (arith, ints, fewest_some))

    pub bottom_small : (den *ℤ fewest_rows f) ≤ℤ pos 300_000_000_000_000
    bottom_small =
        let product = size_of_product-le den (fewest_rows f) most_rows 1_000_000 (omega (arith, ints, positive, small)) fewest_small in
        omega (arith, ints, product)

    pub bottom_passed : to_z w128 (of_z w128 (to_z w128 (of_z w128 den) *ℤ to_z w128 (of_z w128 (fewest_rows f)))) ≡ den *ℤ fewest_rows f
    bottom_passed =
        product_is den (fewest_rows f) (small_product den (fewest_rows f) most_rows 1_000_000 (omega (arith, ints, positive, small)) fewest_small (omega arith) (omega arith) (omega arith))
