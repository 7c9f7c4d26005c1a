-- How many elements of a list pass a test, with one more at the front.
use Rattle.std.proofs.Common.{◌≡◌, ℕ, ◌+◌, Bool, false, cond, List, ◌∷◌, count_by, arith}
use Rattle.std.proofs.lemmas.Bool.{cond-false}
use Rattle.std.proofs.lemmas.List.Sums.{sum_by-cons}

module _ {X : Type 0} where
  pub count_by-cons : (test : X → Bool) (x : X) (xs : List X) → count_by test (x ∷ xs) ≡ cond (test x) 1 0 + count_by test xs
  count_by-cons test x xs = sum_by-cons (λ y. cond (test y) 1 0) x xs

  pub count_by-skips : (test : X → Bool) (x : X) (xs : List X) → test x ≡ false → count_by test (x ∷ xs) ≡ count_by test xs
  count_by-skips test x xs fails = omega (arith, count_by-cons test x xs, cond-false {A = ℕ} (test x) 1 0 fails)
