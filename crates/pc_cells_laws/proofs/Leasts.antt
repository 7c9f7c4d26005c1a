-- The least and the greatest number of a list.
use Rattle.std.proofs.Common.{◌≡◌, ℕ, zero, suc, ◌<◌, ℤ, pos, ◌≤ℤ◌, List, [], ◌∷◌, length, get_or, map, fold, All, unwrap_or, arith}
use Rattle.std.specs.List.{reduce}
use Rattle.std.specs.Int.{int_min, int_max}
use Rattle.std.proofs.lemmas.Int.{ints, clamps}
use Rattle.std.proofs.lemmas.List.Elements.{All-head, All-tail}

module _ {X : Type 0} (f : X → ℤ) where
  above_fold : (n a : ℤ) (xs : List X) → n ≤ℤ a → All (λ x. n ≤ℤ f x) xs → n ≤ℤ fold int_min a (map f xs)
  above_fold n a [] first each = first
  above_fold n a (x ∷ xs) first each =
      let second = All-head (λ y. n ≤ℤ f y) x xs each in
      above_fold n (int_min a (f x)) xs (omega (arith, ints, clamps)) (All-tail (λ y. n ≤ℤ f y) x xs each)

  fold_under_first : (a : ℤ) (xs : List X) → fold int_min a (map f xs) ≤ℤ a
  fold_under_first a [] = omega (arith, ints)
  fold_under_first a (x ∷ xs) = let rest = fold_under_first (int_min a (f x)) xs in omega (arith, ints, clamps)

  fold_under : (a : ℤ) (xs : List X) (i : ℕ) (d : X) → i < length xs → fold int_min a (map f xs) ≤ℤ f (get_or xs i d)
  fold_under a [] i d inside = absurd (omega arith)
  fold_under a (x ∷ xs) zero d inside = let rest = fold_under_first (int_min a (f x)) xs in omega (arith, ints, clamps)
  fold_under a (x ∷ xs) (suc i) d inside = fold_under (int_min a (f x)) xs i d (omega arith)

  below_fold : (n a : ℤ) (xs : List X) → a ≤ℤ n → All (λ x. f x ≤ℤ n) xs → fold int_max a (map f xs) ≤ℤ n
  below_fold n a [] first each = first
  below_fold n a (x ∷ xs) first each =
      let second = All-head (λ y. f y ≤ℤ n) x xs each in
      below_fold n (int_max a (f x)) xs (omega (arith, ints, clamps)) (All-tail (λ y. f y ≤ℤ n) x xs each)

  fold_over_first : (a : ℤ) (xs : List X) → a ≤ℤ fold int_max a (map f xs)
  fold_over_first a [] = omega (arith, ints)
  fold_over_first a (x ∷ xs) = let rest = fold_over_first (int_max a (f x)) xs in omega (arith, ints, clamps)

  fold_over : (a : ℤ) (xs : List X) (i : ℕ) (d : X) → i < length xs → f (get_or xs i d) ≤ℤ fold int_max a (map f xs)
  fold_over a [] i d inside = absurd (omega arith)
  fold_over a (x ∷ xs) zero d inside = let rest = fold_over_first (int_max a (f x)) xs in omega (arith, ints, clamps)
  fold_over a (x ∷ xs) (suc i) d inside = fold_over (int_max a (f x)) xs i d (omega arith)

  pub least_under : (xs : List X) (i : ℕ) (d : X) → i < length xs → unwrap_or (reduce int_min (map f xs)) (pos 0) ≤ℤ f (get_or xs i d)
  least_under [] i d inside = absurd (omega arith)
  least_under (x ∷ xs) zero d inside = fold_under_first (f x) xs
  least_under (x ∷ xs) (suc i) d inside = fold_under (f x) xs i d (omega arith)

  pub greatest_over : (xs : List X) (i : ℕ) (d : X) → i < length xs → f (get_or xs i d) ≤ℤ unwrap_or (reduce int_max (map f xs)) (pos 0)
  greatest_over [] i d inside = absurd (omega arith)
  greatest_over (x ∷ xs) zero d inside = fold_over_first (f x) xs
  greatest_over (x ∷ xs) (suc i) d inside = fold_over (f x) xs i d (omega arith)

  -- one of the list that none is under, and one that none is over
  pub least_is : (xs : List X) (i : ℕ) (d : X) (n : ℤ) → i < length xs → n ≡ f (get_or xs i d) → All (λ x. n ≤ℤ f x) xs → n ≡ unwrap_or (reduce int_min (map f xs)) (pos 0)
  least_is [] i d n inside is each = absurd (omega arith)
  least_is (x ∷ xs) i d n inside is each =
      let under = least_under (x ∷ xs) i d inside in
      let above = above_fold n (f x) xs (All-head (λ y. n ≤ℤ f y) x xs each) (All-tail (λ y. n ≤ℤ f y) x xs each) in
      omega (arith, ints)

  pub greatest_is : (xs : List X) (i : ℕ) (d : X) (n : ℤ) → i < length xs → n ≡ f (get_or xs i d) → All (λ x. f x ≤ℤ n) xs → n ≡ unwrap_or (reduce int_max (map f xs)) (pos 0)
  greatest_is [] i d n inside is each = absurd (omega arith)
  greatest_is (x ∷ xs) i d n inside is each =
      let over = greatest_over (x ∷ xs) i d inside in
      let below = below_fold n (f x) xs (All-head (λ y. f y ≤ℤ n) x xs each) (All-tail (λ y. f y ≤ℤ n) x xs each) in
      omega (arith, ints)
