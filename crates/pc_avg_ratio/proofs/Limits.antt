-- Limits of the rows that counts of a greater ratio have.
use Rattle.std.proofs.Common.{◌≡◌, ℕ, List, refl, arith}
use Rattle.std.specs.Prelude.{pos, ◌<ℤ◌}
use Rattle.std.proofs.lemmas.Int.{ints}
use Rattle.pc_model.specs.Aggregate.{Ratio, IsAtMost}
use Rattle.pc_avg_ratio.specs.declared.fractional.Fractional.{Fractional}
use Rattle.pc_avg_ratio.specs.Fractional.{IsFractional, rows_with, sum_with, excess}
use Rattle.pc_avg_ratio.specs.Steps.{AreBest, HasLimit, IsRatioOf}
use Rattle.pc_avg_ratio.proofs.Excess.{excess_is, rows_some, most_rows_with}
use Rattle.pc_avg_ratio.proofs.Ratios.{fewer_rows, greater_ratio, ratio_grows, above_lesser}

module _ (f : Fractional) (fractional : IsFractional f) where
  pub first_limit : (r : Ratio) → HasLimit f r 201_000_001
  first_limit r counts lawful over = omega (arith, ints, most_rows_with f fractional counts lawful)

  -- counts above a ratio have at least that one
  pub from_above : (r s : Ratio) (counts : List ℕ) → IsRatioOf f s counts → pos 0 <ℤ excess f r counts → IsAtMost r s
  from_above r s counts is over = ratio_grows r.den r.num (sum_with f counts) (rows_with f counts) s.den s.num is.has.some is.positive over is.has.same

  pub limits_stay : (r s : Ratio) (limit : ℕ) → pos 0 <ℤ r.den → pos 0 <ℤ s.den → IsAtMost r s → HasLimit f r limit → HasLimit f s limit
  limits_stay r s limit r_above s_above less limited counts lawful over =
      limited counts lawful (above_lesser r.den r.num s.den s.num (sum_with f counts) (rows_with f counts) r_above s_above (rows_some f fractional counts) less over)

  -- the best counts at a ratio, if they are above it: their rows are a limit at their own ratio
  pub rows_limit : (r s : Ratio) (counts : List ℕ) (limit : ℕ) → pos 0 <ℤ r.den → AreBest f r counts → pos 0 <ℤ excess f r counts → IsRatioOf f s counts →
      pos limit ≡ rows_with f counts → HasLimit f s limit
  rows_limit r s counts limit above best over is limit_is other lawful higher =
      let e = excess f r counts in
      let d = excess f r other in
      let worth_less = best.best other lawful in
      let greater = greater_ratio s.den s.num (sum_with f counts) (rows_with f counts) (sum_with f other) (rows_with f other) s_positive is.has.some is.has.same higher in
      let fewer = fewer_rows r.den r.num (sum_with f counts) (rows_with f counts) (sum_with f other) (rows_with f other) e d above is.has.some refl refl over
      (omega (arith, ints, worth_less, excess_is f fractional r counts, excess_is f fractional r other)) greater in
      omega (arith, ints, fewer, limit_is)
    where
      s_positive : pos 0 <ℤ s.den
      s_positive = is.positive
