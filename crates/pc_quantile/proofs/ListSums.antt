-- What the two sums of a list of numbers say of its quantile.
use Rattle.std.proofs.Common.{◌≡◌, ℕ, ◌*◌, ◌^◌, ◌≤◌, ◌<◌, ℤ, pos, ◌+ℤ◌, ◌-ℤ◌, ◌*ℤ◌, ◌≤ℤ◌, ◌<ℤ◌, List, [], ◌∷◌, length, IfSome, arith}
use Rattle.std.specs.Prelude.{int_le, int_lt}
use Rattle.std.proofs.lemmas.Int.{ints}
use Rattle.std.proofs.lemmas.Option.{IfSome_then}
use Rattle.pc_proof.proofs.RowSums.{count_by-weaker}
use Rattle.pc_quantile.specs.Quantile.{at_most, below, quantile}
use Rattle.pc_quantile.specs.Sums.{weight, first_of, second_of}
use Rattle.pc_quantile.proofs.Shares.{above, within}

-- those below a number are those that are at most the one before it
below_is : (v : ℤ) (numbers : List ℤ) → below v numbers ≡ at_most (v -ℤ pos 1) numbers
below_is v numbers =
    let fewer = count_by-weaker (λ n. int_lt n v) (λ n. int_le n (v -ℤ pos 1)) numbers (λ n test. grind (arith, ints, test)) in
    let more = count_by-weaker (λ n. int_le n (v -ℤ pos 1)) (λ n. int_lt n v) numbers (λ n test. grind (arith, ints, test)) in
    omega (arith, fewer, more)

-- a weighed number with a rest that is less than the weight
under_weight : (d : ℤ) (n : ℕ) → 1 ≤ n → ((weight *ℤ d) +ℤ pos n) ≤ℤ pos 0 → d <ℤ pos 0
under_weight d n some small = omega (arith, ints, some, small)

over_weight : (d : ℤ) (n : ℕ) → n < 2 ^ 36 → pos 1 ≤ℤ ((weight *ℤ d) +ℤ pos n) → pos 0 ≤ℤ d
over_weight d n few large = omega (arith, ints, few, large)

module _ (p q : ℕ) (v : ℤ) (numbers : List ℤ) where
  pub first_within : 1 ≤ p → first_of p q v numbers ≤ℤ pos 0 → IfSome (quantile p q numbers) (λ w. w ≤ℤ v)
  first_within some small = within p q v numbers some (omega (arith, ints, small))

  pub first_above : pos 1 ≤ℤ first_of p q v numbers → IfSome (quantile p q numbers) (λ w. v <ℤ w)
  first_above large = above p q v numbers (omega (arith, ints, large))

  abbrev passed : ℤ
  passed = (pos q *ℤ pos (below v numbers)) -ℤ (pos p *ℤ pos (length numbers))

  pub second_below : 1 ≤ p → length numbers < 2 ^ 36 → pos 1 ≤ℤ second_of p q v numbers → IfSome (quantile p q numbers) (λ w. w <ℤ v)
  second_below some few large =
      let positive = over_weight passed (length numbers) few large in
      let enough : p * length numbers ≤ q * below v numbers = omega (arith, ints, positive) in
      IfSome_then (quantile p q numbers) (within p q (v -ℤ pos 1) numbers some (rw (below_is v numbers) at enough)) (λ w less. omega (arith, ints, less))

  second_from_some : 1 ≤ length numbers → second_of p q v numbers ≤ℤ pos 0 → IfSome (quantile p q numbers) (λ w. v ≤ℤ w)
  second_from_some some small =
      let negative = under_weight passed (length numbers) some small in
      let few : q * below v numbers < p * length numbers = omega (arith, ints, negative) in
      IfSome_then (quantile p q numbers) (above p q (v -ℤ pos 1) numbers (rw (below_is v numbers) at few)) (λ w more. omega (arith, ints, more))

pub second_from : (p q : ℕ) (v : ℤ) (numbers : List ℤ) → second_of p q v numbers ≤ℤ pos 0 → IfSome (quantile p q numbers) (λ w. v ≤ℤ w)
second_from p q v [] small = tt
second_from p q v (x ∷ xs) small = second_from_some p q v (x ∷ xs) (omega arith) small

-- the sums of no numbers are not above 0
pub first_some : (p q : ℕ) (v : ℤ) (numbers : List ℤ) → pos 1 ≤ℤ first_of p q v numbers → 0 < length numbers
first_some p q v [] large = absurd (omega (arith, ints, large))
first_some p q v (x ∷ xs) large = omega arith

pub second_some : (p q : ℕ) (v : ℤ) (numbers : List ℤ) → pos 1 ≤ℤ second_of p q v numbers → 0 < length numbers
second_some p q v [] large = absurd (omega (arith, ints, large))
second_some p q v (x ∷ xs) large = omega arith
