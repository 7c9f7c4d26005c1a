-- How far counts are above a ratio, and that those above one have rows.
use Rattle.std.proofs.Common.{◌≡◌, ℕ, zero, suc, ◌<◌, inl, inr, List, sym, ap, ◌∙◌, arith}
use Rattle.std.specs.Prelude.{ℤ, pos, ◌+ℤ◌, ◌-ℤ◌, ◌*ℤ◌, ◌≤ℤ◌, ◌<ℤ◌}
use Rattle.std.proofs.lemmas.Bool.{cases_eq}
use Rattle.std.proofs.lemmas.Int.{ints, by_lt_z}
use Rattle.pc_model.specs.Aggregate.{Ratio}
use Rattle.pc_program_bound.specs.Sums.{sum_below, nat_at, int_at}
use Rattle.pc_program_bound.specs.Allocation.{cells_of, worth}
use Rattle.pc_program_bound.proofs.Ring.{mul-add, mul_assoc}
use Rattle.pc_program_bound.proofs.SumBelow.{sum_below-zero, sum_below-suc, sum_below-same, sum_below-none, sum_below_mono, sum_below-zeros}
use Rattle.pc_simplex_tableau.proofs.Listed.{at-table}
use Rattle.pc_simplex_tableau.proofs.Products.{zero-mul, one-mul, mul-zero, sub-mul}
use Rattle.pc_avg_ratio.specs.declared.fractional.Fractional.{Fractional}
use Rattle.pc_avg_ratio.specs.Fractional.{IsFractional, IsLawful, AddsOne, rows_with, sum_with, excess, gain_over, program_at, over_before, most_rows}

-- ---- sums

sums-differ : (q p : ℤ) (n : ℕ) (s g c : ℕ → ℤ) →
    sum_below n (λ i. (q *ℤ s i -ℤ p *ℤ g i) *ℤ c i) ≡ q *ℤ sum_below n (λ i. s i *ℤ c i) -ℤ p *ℤ sum_below n (λ i. g i *ℤ c i)
sums-differ q p zero s g c =
    rw (sum_below-zero (λ i. (q *ℤ s i -ℤ p *ℤ g i) *ℤ c i), sum_below-zero (λ i. s i *ℤ c i), sum_below-zero (λ i. g i *ℤ c i)) (omega (arith, ints, mul-zero q, mul-zero p))
sums-differ q p (suc n) s g c =
    let before = sums-differ q p n s g c in
    let last = sub-mul (q *ℤ s n) (p *ℤ g n) (c n) in
    rw (sum_below-suc n (λ i. (q *ℤ s i -ℤ p *ℤ g i) *ℤ c i), sum_below-suc n (λ i. s i *ℤ c i), sum_below-suc n (λ i. g i *ℤ c i))
    (omega (
      arith,
      ints,
      before,
      last,
      mul_assoc q (s n) (c n),
      mul_assoc p (g n) (c n),
      mul-add q (sum_below n (λ i. s i *ℤ c i)) (s n *ℤ c n),
      mul-add p (sum_below n (λ i. g i *ℤ c i)) (g n *ℤ c n),
    ))

-- a sum of numbers that are not negative, which is not positive itself
each-none : (n : ℕ) (f : ℕ → ℤ) → ((i : ℕ) → i < n → pos 0 ≤ℤ f i) → sum_below n f ≤ℤ pos 0 → (i : ℕ) → i < n → f i ≡ pos 0
each-none zero f some none i lt = absurd (omega (arith, lt))
each-none (suc n) f some none i lt =
    let before = sum_below_mono n (λ k. pos 0) f (λ k h. some k (omega (arith, h))) in
    let zeros = sum_below-zeros n in
    let whole = sum_below-suc n f in
    let last = some n (omega arith) in
    elim (cases_eq n i) [
      | inl e ↦ ap f (sym e) ∙ omega (arith, ints, before, zeros, whole, none, last)
      | inr other ↦ each-none n f (λ k h. some k (omega (arith, h))) (omega (arith, ints, before, zeros, whole, none, last)) i (omega (arith, lt, other))
    ]

-- ---- counts

module _ (f : Fractional) (fractional : IsFractional f) where
  pub sums_worth : (counts : List ℕ) → worth f.sums counts ≡ sum_below (cells_of f.rows) (λ i. int_at f.sums.gain i *ℤ pos (nat_at counts i))
  sums_worth counts = ap (λ p. worth p counts) fractional.same

  worth_over : (r : Ratio) (counts : List ℕ) → worth (program_at f r) counts ≡ r.den *ℤ worth f.sums counts -ℤ r.num *ℤ worth f.rows counts
  worth_over r counts =
      sum_below-same (cells_of f.rows) (λ i. int_at (program_at f r).gain i *ℤ pos (nat_at counts i)) (λ i. gain_over f r i *ℤ pos (nat_at counts i))
      (λ i lt. ap (λ x. x *ℤ pos (nat_at counts i)) (at-table (cells_of f.rows) (gain_over f r) i (pos 0) lt))
      ∙ sums-differ r.den r.num (cells_of f.rows) (int_at f.sums.gain) (int_at f.rows.gain) (λ i. pos (nat_at counts i))
      ∙ ap (λ x. r.den *ℤ x -ℤ r.num *ℤ worth f.rows counts) (sym (sums_worth counts))

  pub excess_is : (r : Ratio) (counts : List ℕ) → excess f r counts ≡ over_before f r +ℤ worth (program_at f r) counts
  excess_is r counts =
      omega (arith, ints, worth_over r counts, mul-add r.den f.sum (worth f.sums counts), mul-add r.num (pos f.count) (worth f.rows counts))

  pub over_by_worth : (r : Ratio) (counts : List ℕ) (value : ℤ) → worth (program_at f r) counts ≡ value → pos 0 <ℤ (over_before f r +ℤ value) → pos 0 <ℤ excess f r counts
  over_by_worth r counts value is over = omega (arith, ints, excess_is r counts, is, over)

  -- ---- rows

  row_some : (counts : List ℕ) (i : ℕ) → AddsOne f i → pos 0 ≤ℤ (int_at f.rows.gain i *ℤ pos (nat_at counts i))
  row_some counts i (inl none) = rw (none.0, zero-mul (pos (nat_at counts i))) (omega (arith, ints))
  row_some counts i (inr one) = rw (one, one-mul (pos (nat_at counts i))) (omega (arith, ints))

  pub worth_some : (counts : List ℕ) → pos 0 ≤ℤ worth f.rows counts
  worth_some counts =
      let less = sum_below_mono (cells_of f.rows) (λ i. pos 0) (λ i. int_at f.rows.gain i *ℤ pos (nat_at counts i)) (λ i lt. row_some counts i (fractional.ones i lt)) in
      omega (arith, ints, less, sum_below-zeros (cells_of f.rows))

  pub rows_some : (counts : List ℕ) → pos 0 ≤ℤ rows_with f counts
  rows_some counts = omega (arith, ints, worth_some counts)

  no_number : (counts : List ℕ) (i : ℕ) → AddsOne f i → int_at f.rows.gain i *ℤ pos (nat_at counts i) ≡ pos 0 → int_at f.sums.gain i *ℤ pos (nat_at counts i) ≡ pos 0
  no_number counts i (inl none) empty = rw none.1 (zero-mul (pos (nat_at counts i)))
  no_number counts i (inr one) empty =
      let nobody : pos (nat_at counts i) ≡ pos 0 = sym (one-mul (pos (nat_at counts i))) ∙ ap (λ x. x *ℤ pos (nat_at counts i)) (sym one) ∙ empty in
      ap (λ x. int_at f.sums.gain i *ℤ x) nobody ∙ mul-zero (int_at f.sums.gain i)

  no_sum : (counts : List ℕ) → worth f.rows counts ≤ℤ pos 0 → worth f.sums counts ≡ pos 0
  no_sum counts none =
      let empty = each-none (cells_of f.rows) (λ i. int_at f.rows.gain i *ℤ pos (nat_at counts i)) (λ i lt. row_some counts i (fractional.ones i lt)) none in
      sums_worth counts
      ∙ sum_below-none (cells_of f.rows) (λ i. int_at f.sums.gain i *ℤ pos (nat_at counts i)) (λ i lt. no_number counts i (fractional.ones i lt) (empty i lt))

  pub above_have_rows : (r : Ratio) (counts : List ℕ) → pos 0 <ℤ excess f r counts → pos 0 <ℤ rows_with f counts
  above_have_rows r counts over = by_lt_z (pos 0) (rows_with f counts) (λ some. some) (λ none. absurd (nothing none))
    where
      nothing : rows_with f counts ≤ℤ pos 0 → ⊥
      nothing none =
          let empty = worth_some counts in
          let rows : rows_with f counts ≡ pos 0 = omega (arith, ints, none, rows_some counts) in
          let before = fractional.none (omega (arith, ints, none, empty)) in
          let sum : sum_with f counts ≡ pos 0 = omega (arith, ints, before, no_sum counts (omega (arith, ints, none, empty))) in
          let product : r.den *ℤ sum_with f counts ≡ pos 0 = ap (λ x. r.den *ℤ x) sum ∙ mul-zero r.den in
          let rest : r.num *ℤ rows_with f counts ≡ pos 0 = ap (λ x. r.num *ℤ x) rows ∙ mul-zero r.num in
          omega (arith, ints, over, product, rest)

  pub most_rows_with : (counts : List ℕ) → IsLawful f counts → rows_with f counts ≤ℤ pos most_rows
  most_rows_with counts lawful = omega (arith, ints, fractional.few, fractional.few_rows counts lawful)
