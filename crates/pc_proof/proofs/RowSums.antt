-- Sums over a list, and over the places of a list; counts of those that pass a test.
use Rattle.std.proofs.Common.{◌≡◌, ◌+◌, ◌≤◌, ℤ, pos, ◌+ℤ◌, Bool, true, false, cond, List, [], ◌∷◌, length, map, get_or, All, count_by, refl, sym, ap, ap₂, ◌∙◌, true≢false, arith}
use Rattle.std.proofs.lemmas.Int.{ints}
use Rattle.std.proofs.lemmas.List.Elements.{All-head, All-tail}
use Rattle.std.proofs.lemmas.List.Sums.{sum_by-le-sum_by}
use Rattle.pc_model.specs.Aggregate.{int_sum}
use Rattle.pc_model.proofs.Tallies.{count_by-cons}
use Rattle.pc_program_bound.specs.Sums.{sum_below}
use Rattle.pc_program_bound.proofs.SumBelow.{sum_below-front, sum_below-zero}

-- ---- over a list

module _ {X : Type 0} where
  pub int_sum-same : (f g : X → ℤ) (xs : List X) → ((x : X) → f x ≡ g x) → int_sum (map f xs) ≡ int_sum (map g xs)
  int_sum-same f g [] same = refl
  int_sum-same f g (x ∷ xs) same = ap₂ (λ a b. a +ℤ b) (same x) (int_sum-same f g xs same)

  pub int_sum-add : (f g : X → ℤ) (xs : List X) → int_sum (map (λ x. f x +ℤ g x) xs) ≡ int_sum (map f xs) +ℤ int_sum (map g xs)
  int_sum-add f g [] = refl
  int_sum-add f g (x ∷ xs) = omega (arith, ints, int_sum-add f g xs)

  pub int_sum-none : (f : X → ℤ) (xs : List X) → All (λ x. f x ≡ pos 0) xs → int_sum (map f xs) ≡ pos 0
  int_sum-none f [] none = refl
  int_sum-none f (x ∷ xs) none =
      omega (arith, ints, All-head (λ y. f y ≡ pos 0) x xs none, int_sum-none f xs (All-tail (λ y. f y ≡ pos 0) x xs none))

  -- a count is a sum of ones
  pub int_sum-count : (test : X → Bool) (xs : List X) → int_sum (map (λ x. cond (test x) (pos 1) (pos 0)) xs) ≡ pos (count_by test xs)
  int_sum-count test [] = refl
  int_sum-count test (x ∷ xs) = by_test (test x) (int_sum-count test xs) ∙ ap pos (sym (count_by-cons test x xs))
    where
      by_test : (passes : Bool) → int_sum (map (λ y. cond (test y) (pos 1) (pos 0)) xs) ≡ pos (count_by test xs) →
          cond passes (pos 1) (pos 0) +ℤ int_sum (map (λ y. cond (test y) (pos 1) (pos 0)) xs) ≡ pos (cond passes 1 0 + count_by test xs)
      by_test true later = omega (arith, ints, later)
      by_test false later = omega (arith, ints, later)

  -- a weaker test passes no fewer
  pub count_by-weaker : (test weaker : X → Bool) (xs : List X) → ((x : X) → test x ≡ true → weaker x ≡ true) → count_by test xs ≤ count_by weaker xs
  count_by-weaker test weaker xs follows = sum_by-le-sum_by (λ x. cond (test x) 1 0) (λ x. cond (weaker x) 1 0) xs (λ x. at_one (test x) (weaker x) (follows x))
    where
      at_one : (a b : Bool) → (a ≡ true → b ≡ true) → cond a 1 0 ≤ cond b 1 0
      at_one false b h = omega arith
      at_one true true h = omega arith
      at_one true false h = absurd (true≢false (sym (h refl)))

-- ---- over places

-- the sum over the places of a list is that over the list
pub sum_below-list : {X : Type 0} (f : X → ℤ) (xs : List X) (d : X) → sum_below (length xs) (λ i. f (get_or xs i d)) ≡ int_sum (map f xs)
sum_below-list f [] d = sum_below-zero (λ i. f (get_or [] i d))
sum_below-list f (x ∷ xs) d = sum_below-front (length xs) (λ i. f (get_or (x ∷ xs) i d)) ∙ ap (λ later. f x +ℤ later) (sum_below-list f xs d)
