-- Sums and products of numbers that are passed on.
use Rattle.std.proofs.Common.{◌≡◌, ℕ, ◌+◌, ◌*◌, ◌<◌, ◌≤◌, ◌^◌, List, to_z, of_z, refl, subst, arith}
use Rattle.std.specs.Prelude.{ℤ, pos, nat_abs, ◌+ℤ◌, ◌≤ℤ◌, ◌<ℤ◌, true, false}
use Rattle.std.specs.Int.{w128}
use lib.Signed.{le_z, lt_z, mag}
use Rattle.std.proofs.lemmas.Int.{ints}
use Rattle.pc_model.specs.Aggregate.{Ratio}
use Rattle.pc_avg_ratio.specs.declared.fractional.Fractional.{Fractional}
use Rattle.pc_avg_ratio.specs.Fractional.{excess, most_rows, most_sum}
use Rattle.pc_avg_ratio.proofs.PassedProducts.{IsSmallProduct, small_product, sum_is}

-- what is there before and a worth
pub sum_passed : (a b before : ℤ) → a ≡ before → nat_abs a ≤ 402_000_000 * most_sum → nat_abs b ≤ 10 ^ 37 →
    to_z w128 (of_z w128 (to_z w128 (of_z w128 a) +ℤ to_z w128 (of_z w128 b))) ≡ before +ℤ b
sum_passed a b before is small also = sum_is a b before b is refl (rw (← is) (omega (arith, small))) (omega (arith, also))

pub is_at_most : (a b : ℤ) → le_z a b ≡ true → a ≤ℤ b
is_at_most a b test = omega (arith, ints)

pub is_above : (a b : ℤ) → le_z a b ≡ false → b <ℤ a
is_above a b test = omega (arith, ints)

pub rows_passed : (a rows : ℤ) → a ≡ rows → pos 0 ≤ℤ a → a ≤ℤ pos most_rows → pos (nat_abs (to_z w128 (of_z w128 a))) ≡ rows
rows_passed a rows is some few = omega (arith, ints)

pub lower_limit : (n : ℕ) (rows : ℤ) (limit tries : ℕ) → pos n ≡ rows → rows <ℤ pos limit → n + tries < limit + tries
lower_limit n rows limit tries is fewer = omega (arith, ints)

-- the outermost number times a denominator
pub product_small : (outermost den : ℤ) → nat_abs outermost ≤ 2 ^ 63 → pos 0 <ℤ den → den ≤ℤ pos most_rows → IsSmallProduct outermost den
product_small outermost den small above few =
    small_product outermost den (2 ^ 63) most_rows small (omega (arith, ints, above, few)) (omega arith) (omega arith) (omega arith)

-- counts that were tried are above the ratio
pub over_passed : (f : Fractional) (r : Ratio) (passed_counts counts : List ℕ) (tried : ℤ) → passed_counts ≡ counts → tried ≡ excess f r passed_counts → mag tried < 2 ^ 127 →
    lt_z (pos 0) (to_z w128 (of_z w128 tried)) ≡ true → pos 0 <ℤ excess f r counts
over_passed f r passed_counts counts tried same is fits test =
    let same_tried : to_z w128 (of_z w128 tried) ≡ tried = omega (arith, ints, fits) in
    let over : lt_z (pos 0) tried ≡ true = rw same_tried at test in
    let here : pos 0 <ℤ tried = omega (arith, ints, over) in
    subst (λ (list : List ℕ). pos 0 <ℤ excess f r list) same (subst (λ x. pos 0 <ℤ x) is here)
