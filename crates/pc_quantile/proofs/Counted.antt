-- How many of a list pass a test.
use Rattle.std.proofs.Common.{◌≡◌, ◌≤◌, Bool, true, false, cond, List, [], ◌∷◌, length, All, count_by, refl, sym, true≢false, arith}
use Rattle.std.proofs.lemmas.List.Elements.{All-head, All-tail}
use Rattle.pc_model.proofs.Tallies.{count_by-cons}

one_more : (a b : Bool) → (a ≡ true → b ≡ true) → cond a 1 0 ≤ cond b 1 0
one_more false b follows = omega arith
one_more true true follows = omega arith
one_more true false follows = absurd (true≢false (sym (follows refl)))

module _ {X : Type 0} where
  -- a test that each of the list passes where it passes the first passes no fewer
  pub count_by-follows : (test other : X → Bool) (xs : List X) → All (λ x. test x ≡ true → other x ≡ true) xs → count_by test xs ≤ count_by other xs
  count_by-follows test other [] each = omega arith
  count_by-follows test other (x ∷ xs) each =
      let first = one_more (test x) (other x) (All-head (λ y. test y ≡ true → other y ≡ true) x xs each) in
      let rest = count_by-follows test other xs (All-tail (λ y. test y ≡ true → other y ≡ true) x xs each) in
      omega (arith, count_by-cons test x xs, count_by-cons other x xs, first, rest)

  -- where all pass, all are counted
  pub count_by-all : (test : X → Bool) (xs : List X) → All (λ x. test x ≡ true) xs → length xs ≤ count_by test xs
  count_by-all test [] each = omega arith
  count_by-all test (x ∷ xs) each =
      let first = one_more true (test x) (λ e. All-head (λ y. test y ≡ true) x xs each) in
      let rest = count_by-all test xs (All-tail (λ y. test y ≡ true) x xs each) in
      omega (arith, count_by-cons test x xs, first, rest)
