-- What each number adds to the two sums.
use Rattle.std.proofs.Common.{◌≡◌, ℕ, suc, ◌+◌, ℤ, pos, ◌+ℤ◌, ◌-ℤ◌, ◌*ℤ◌, ◌≤ℤ◌, Bool, true, false, cond, List, [], ◌∷◌, length, map, refl, sym, true≢false, arith}
use Rattle.std.specs.Prelude.{int_le, int_lt}
use Rattle.std.proofs.lemmas.Int.{ints}
use Rattle.pc_model.specs.Aggregate.{int_sum}
use Rattle.pc_model.proofs.Tallies.{count_by-cons}
use Rattle.pc_program_bound.proofs.Ring.{mul-more}
use Rattle.pc_quantile.specs.Quantile.{at_most, below}
use Rattle.pc_quantile.specs.Sums.{weight, first_of, second_of}
use Rattle.pc_quantile.specs.Gains.{first_added, second_added}

module _ (p q : ℕ) (v : ℤ) where
  first_more : (test : Bool) (k n m : ℕ) → k ≡ cond test 1 0 + n →
      (pos p *ℤ pos (suc m)) -ℤ (pos q *ℤ pos k) ≡ cond test (pos p -ℤ pos q) (pos p) +ℤ ((pos p *ℤ pos m) -ℤ (pos q *ℤ pos n))
  first_more true k n m is = let more : k ≡ suc n = omega (arith, is) in rw more (omega (arith, ints, mul-more (pos p) m, mul-more (pos q) n))
  first_more false k n m is = let same : k ≡ n = omega (arith, is) in rw same (omega (arith, ints, mul-more (pos p) m))

  pub first_is : (numbers : List ℤ) → first_of p q v numbers ≡ int_sum (map (first_added p q v) numbers)
  first_is [] = omega (arith, ints)
  first_is (x ∷ xs) =
      let more = first_more (int_le x v) (at_most v (x ∷ xs)) (at_most v xs) (length xs) (count_by-cons (λ n. int_le n v) x xs) in
      omega (arith, ints, more, first_is xs)

  second_more : (test : Bool) (k n m : ℕ) → k ≡ cond test 1 0 + n →
      (weight *ℤ ((pos q *ℤ pos k) -ℤ (pos p *ℤ pos (suc m)))) +ℤ pos (suc m) ≡
      cond test ((weight *ℤ (pos q -ℤ pos p)) +ℤ pos 1) (pos 1 -ℤ (weight *ℤ pos p)) +ℤ ((weight *ℤ ((pos q *ℤ pos n) -ℤ (pos p *ℤ pos m))) +ℤ pos m)
  second_more true k n m is = let more : k ≡ suc n = omega (arith, is) in rw more (omega (arith, ints, mul-more (pos p) m, mul-more (pos q) n))
  second_more false k n m is = let same : k ≡ n = omega (arith, is) in rw same (omega (arith, ints, mul-more (pos p) m))

  pub second_is : (numbers : List ℤ) → second_of p q v numbers ≡ int_sum (map (second_added p q v) numbers)
  second_is [] = omega (arith, ints)
  second_is (x ∷ xs) =
      let more = second_more (int_lt x v) (below v (x ∷ xs)) (below v xs) (length xs) (count_by-cons (λ n. int_lt n v) x xs) in
      omega (arith, ints, more, second_is xs)

  -- a greater number adds no less to the first sum, and a lesser one no less to the second
  pub first_grows : (a b : ℤ) → a ≤ℤ b → first_added p q v a ≤ℤ first_added p q v b
  first_grows a b below = by_tests (int_le a v) (int_le b v) (λ test. grind (arith, ints, below, test))
    where
      by_tests : (s t : Bool) → (t ≡ true → s ≡ true) → cond s (pos p -ℤ pos q) (pos p) ≤ℤ cond t (pos p -ℤ pos q) (pos p)
      by_tests true true follows = omega (arith, ints)
      by_tests true false follows = omega (arith, ints)
      by_tests false true follows = absurd (true≢false (sym (follows refl)))
      by_tests false false follows = omega (arith, ints)

  pub second_falls : (a b : ℤ) → a ≤ℤ b → second_added p q v b ≤ℤ second_added p q v a
  second_falls a b below = by_tests (int_lt b v) (int_lt a v) (λ test. grind (arith, ints, below, test))
    where
      by_tests : (s t : Bool) → (s ≡ true → t ≡ true) →
          cond s ((weight *ℤ (pos q -ℤ pos p)) +ℤ pos 1) (pos 1 -ℤ (weight *ℤ pos p)) ≤ℤ cond t ((weight *ℤ (pos q -ℤ pos p)) +ℤ pos 1) (pos 1 -ℤ (weight *ℤ pos p))
      by_tests true true follows = omega (arith, ints)
      by_tests true false follows = absurd (true≢false (sym (follows refl)))
      by_tests false true follows = omega (arith, ints)
      by_tests false false follows = omega (arith, ints)
