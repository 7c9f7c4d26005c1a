-- How large the numbers of counts are, and those of the programs that weigh them.
use Rattle.std.proofs.Common.{ℕ, ◌*◌, ◌^◌, ◌<◌, ◌≤◌, inl, inr, List, sym, subst, arith}
use Rattle.std.specs.Prelude.{ℤ, pos, neg_ℤ, nat_abs, ◌*ℤ◌, ◌≤ℤ◌, ◌<ℤ◌}
use Rattle.std.proofs.Math.Nat.{mul-le-mul_right}
use Rattle.std.proofs.Math.IntN.{*ℤ_comm}
use Rattle.std.proofs.lemmas.Int.{ints}
use Rattle.pc_num.specs.Scaled.{greatest_size}
use Rattle.pc_num.specs.declared.fraction.Frac.{Frac}
use Rattle.pc_num.specs.Fractions.{IsQuotient}
use Rattle.pc_model.specs.Aggregate.{Ratio}
use Rattle.pc_program_bound.specs.declared.program.Program.{Program}
use Rattle.pc_program_bound.specs.Sums.{sum_below, nat_at, int_at}
use Rattle.pc_program_bound.specs.Allocation.{cells_of, worth, IsProgram, IsAllocation}
use Rattle.pc_program_bound.proofs.Ring.{mul_mono}
use Rattle.pc_program_bound.proofs.SumBelow.{sum_below_mono, sum_below-scale}
use Rattle.pc_simplex_short.proofs.Sizes.{size_of_product-le}
use Rattle.pc_simplex_tableau.proofs.Listed.{at-table, length-table}
use Rattle.pc_branch.specs.Ends.{HasSmallGains}
use Rattle.pc_branch.specs.Outcome.{IsEasyProgram}
use Rattle.pc_proof.specs.Table.{ratio_of}
use Rattle.pc_avg_ratio.specs.declared.fractional.Fractional.{Fractional}
use Rattle.pc_avg_ratio.specs.Fractional.{IsFractional, IsLawful, AddsOne, rows_with, sum_with, gain_over, over_before, program_at, most_rows, most_added, most_room, most_sum}
use Rattle.pc_avg_ratio.specs.Steps.{IsRatioOf}
use Rattle.pc_avg_ratio.proofs.Excess.{sums_worth, rows_some, most_rows_with}
use Rattle.pc_avg_ratio.proofs.PassedProducts.{IsSmallProduct, small_product}
use Rattle.pc_avg_ratio.proofs.Reduced.{small_den, small_num}

-- ---- gains

module _ (p : Program) (m : ℕ) (each : (i : ℕ) → i < cells_of p → nat_abs (int_at p.gain i) ≤ m) where
  size_less : (i : ℕ) → i < cells_of p → (pos (nat_abs (int_at p.gain i)) *ℤ pos (nat_at p.cap i)) ≤ℤ (pos m *ℤ pos (nat_at p.cap i))
  size_less i lt =
      let more : nat_abs (int_at p.gain i) * nat_at p.cap i ≤ m * nat_at p.cap i = mul-le-mul_right (nat_at p.cap i) (each i lt) in
      omega (arith, ints, more)

  -- gains that are small, in cells that have room for few rows
  pub small_gains : m < 2 ^ 87 → m * most_room ≤ 10 ^ 37 → sum_below (cells_of p) (λ i. pos (nat_at p.cap i)) ≤ℤ pos most_room → HasSmallGains p
  small_gains few fits room = record {
    gains = λ i lt. let small = each i lt in omega (arith, small, few);
    sum =
        let less = sum_below_mono (cells_of p) (λ i. pos (nat_abs (int_at p.gain i)) *ℤ pos (nat_at p.cap i)) (λ i. pos m *ℤ pos (nat_at p.cap i)) size_less in
        let whole = sum_below-scale (pos m) (cells_of p) (λ i. pos (nat_at p.cap i)) in
        let scaled = mul_mono (pos m) (sum_below (cells_of p) (λ i. pos (nat_at p.cap i))) (pos most_room) (omega (arith, ints)) room in
        omega (arith, ints, less, whole, scaled, fits);
  }

row_small : (f : Fractional) (i : ℕ) → AddsOne f i → nat_abs (int_at f.rows.gain i) ≤ 1
row_small f i (inl none) = rw none.0 (omega arith)
row_small f i (inr one) = rw one (omega arith)

-- ---- a cell's number is at most so many times its rows

module _ (f : Fractional) (counts : List ℕ) (i : ℕ) (small : nat_abs (int_at f.sums.gain i) ≤ greatest_size) where
  number_above : AddsOne f i → (int_at f.sums.gain i *ℤ pos (nat_at counts i)) ≤ℤ (pos greatest_size *ℤ (int_at f.rows.gain i *ℤ pos (nat_at counts i)))
  number_above (inl none) = rw (none.0, none.1) (omega (arith, ints))
  number_above (inr one) =
      let more = mul_mono (pos (nat_at counts i)) (int_at f.sums.gain i) (pos greatest_size) (omega (arith, ints)) (omega (arith, ints, small)) in
      let turned = *ℤ_comm (pos (nat_at counts i)) (int_at f.sums.gain i) in
      rw one (omega (arith, ints, more, turned))

  number_below : AddsOne f i → (neg_ℤ (pos greatest_size) *ℤ (int_at f.rows.gain i *ℤ pos (nat_at counts i))) ≤ℤ (int_at f.sums.gain i *ℤ pos (nat_at counts i))
  number_below (inl none) = rw (none.0, none.1) (omega (arith, ints))
  number_below (inr one) =
      let more = mul_mono (pos (nat_at counts i)) (neg_ℤ (pos greatest_size)) (int_at f.sums.gain i) (omega (arith, ints)) (omega (arith, ints, small)) in
      let turned = *ℤ_comm (pos (nat_at counts i)) (int_at f.sums.gain i) in
      rw one (omega (arith, ints, more, turned))

module _ (f : Fractional) (fractional : IsFractional f) where
  -- ---- what the two programs require

  pub rows_small : HasSmallGains f.rows
  rows_small = small_gains f.rows 1 (λ i lt. row_small f i (fractional.ones i lt)) (omega arith) (omega arith) fractional.room

  pub sums_small : HasSmallGains f.sums
  sums_small =
      subst HasSmallGains (sym fractional.same) (small_gains (record f.rows { gain = f.sums.gain }) greatest_size fractional.small (omega arith) (omega arith) fractional.room)

  pub sums_lawful : (counts : List ℕ) → IsLawful f counts → IsAllocation f.sums f.sums.floor f.sums.cap counts
  sums_lawful counts lawful =
      subst (λ (p : Program). IsAllocation p p.floor p.cap counts) (sym fractional.same) (record { sized = lawful.sized; within = lawful.within; met = lawful.met })

  -- ---- sums

  module _ (counts : List ℕ) (lawful : IsLawful f counts) where
    abbrev row_at : ℕ → ℤ
    row_at i = int_at f.rows.gain i *ℤ pos (nat_at counts i)

    abbrev number_of : ℕ → ℤ
    number_of i = int_at f.sums.gain i *ℤ pos (nat_at counts i)

    pub numbers_small : nat_abs (worth f.sums counts) ≤ greatest_size * most_added
    numbers_small =
        let above = sum_below_mono (cells_of f.rows) number_of (λ i. pos greatest_size *ℤ row_at i) (λ i lt. number_above f counts i (fractional.small i lt) (fractional.ones i lt)) in
        let below = sum_below_mono (cells_of f.rows) (λ i. neg_ℤ (pos greatest_size) *ℤ row_at i) number_of (λ i lt. number_below f counts i (fractional.small i lt) (fractional.ones i lt)) in
        let above_is = sum_below-scale (pos greatest_size) (cells_of f.rows) row_at in
        let below_is = sum_below-scale (neg_ℤ (pos greatest_size)) (cells_of f.rows) row_at in
        omega (arith, ints, above, below, above_is, below_is, sums_worth f fractional counts, fractional.few_rows counts lawful)

    pub sum_small : nat_abs (sum_with f counts) ≤ most_sum
    sum_small = omega (arith, ints, numbers_small, fractional.small_sum)

  rows_small_with : (counts : List ℕ) → IsLawful f counts → nat_abs (rows_with f counts) ≤ most_rows
  rows_small_with counts lawful = let some = rows_some f fractional counts in let few = most_rows_with f fractional counts lawful in omega (arith, ints, some, few)

  -- the sum of counts times the rows of others
  pub sum_times_rows : (counts others : List ℕ) → IsLawful f counts → IsLawful f others → IsSmallProduct (sum_with f counts) (rows_with f others)
  sum_times_rows counts others lawful also =
      small_product (sum_with f counts) (rows_with f others) most_sum most_rows (sum_small counts lawful) (rows_small_with others also) (omega arith) (omega arith) (omega arith)

  -- the ratio of counts that have a row, in lowest terms
  pub ratio_found : (counts : List ℕ) → IsLawful f counts → pos 0 <ℤ rows_with f counts → (ratio : Frac) → IsQuotient (sum_with f counts) (rows_with f counts) ratio → IsRatioOf f (ratio_of ratio) counts
  ratio_found counts lawful some ratio is = record {
    has = record { lawful = lawful; some = some; same = is.equal };
    positive = is.frac.above;
    small_den =
        let less = small_den (sum_with f counts) (rows_with f counts) ratio some is in
        let few = most_rows_with f fractional counts lawful in
        omega (arith, ints, less, few);
    small_num =
        let less = small_num (sum_with f counts) (rows_with f counts) ratio some is in
        let small = sum_small counts lawful in
        omega (arith, less, small);
  }

  -- ---- at a ratio

  module _ (r : Ratio) (some : pos 0 ≤ℤ r.den) (few : r.den ≤ℤ pos most_rows) (small : nat_abs r.num ≤ most_sum) where
    pub over_sum : IsSmallProduct r.den f.sum
    over_sum = small_product r.den f.sum most_rows (1_000_000 * greatest_size) (omega (arith, ints, some, few)) fractional.small_sum (omega arith) (omega arith) (omega arith)

    pub over_count : IsSmallProduct r.num (pos f.count)
    over_count = small_product r.num (pos f.count) most_sum 1_000_000 small (omega (arith, ints, fractional.few)) (omega arith) (omega arith) (omega arith)

    pub over_before_small : nat_abs (over_before f r) ≤ 402_000_000 * most_sum
    over_before_small =
        let sum = size_of_product-le r.den f.sum most_rows (1_000_000 * greatest_size) (omega (arith, ints, some, few)) fractional.small_sum in
        let count = size_of_product-le r.num (pos f.count) most_sum 1_000_000 small (omega (arith, ints, fractional.few)) in
        omega (arith, ints, sum, count)

    pub over_sum_of : (counts : List ℕ) → IsLawful f counts → IsSmallProduct r.den (sum_with f counts)
    over_sum_of counts lawful =
        small_product r.den (sum_with f counts) most_rows most_sum (omega (arith, ints, some, few)) (sum_small counts lawful) (omega arith) (omega arith) (omega arith)

    pub over_rows_of : (counts : List ℕ) → IsLawful f counts → IsSmallProduct r.num (rows_with f counts)
    over_rows_of counts lawful =
        small_product r.num (rows_with f counts) most_sum most_rows small (rows_small_with counts lawful) (omega arith) (omega arith) (omega arith)

    gain_small : (i : ℕ) → i < cells_of f.rows → nat_abs (gain_over f r i) ≤ 2 * most_sum
    gain_small i lt =
        let number = size_of_product-le r.den (int_at f.sums.gain i) most_rows greatest_size (omega (arith, ints, some, few)) (fractional.small i lt) in
        let row = size_of_product-le r.num (int_at f.rows.gain i) most_sum 1 small (row_small f i (fractional.ones i lt)) in
        omega (arith, ints, number, row)

    gain_at_small : (i : ℕ) → i < cells_of f.rows → nat_abs (int_at (program_at f r).gain i) ≤ 2 * most_sum
    gain_at_small i lt = subst (λ x. nat_abs x ≤ 2 * most_sum) (sym (at-table (cells_of f.rows) (gain_over f r) i (pos 0) lt)) (gain_small i lt)

    pub program_small : HasSmallGains (program_at f r)
    program_small = small_gains (program_at f r) (2 * most_sum) gain_at_small (omega arith) (omega arith) fractional.room

    pub program_formed : IsProgram (program_at f r)
    program_formed =
        let is = fractional.program in
        record {
          mosts = is.mosts;
          floors = is.floors;
          caps = is.caps;
          gains = length-table (cells_of f.rows) (gain_over f r);
          few = is.few;
          ordered = is.ordered;
          boxed = is.boxed;
          small_most = is.small_most;
          small_cap = is.small_cap;
        }

    pub program_easy : IsEasyProgram f.rows → IsEasyProgram (program_at f r)
    program_easy easy = record { pairs = easy.pairs; small = program_small.gains; few = easy.few }
