-- Facts of two lists behind one another, and counts.
use Rattle.std.proofs.Common.{◌≡◌, ◌∙◌, ℕ, ◌+◌, ◌<◌, ◌≤◌, ◌||◌, nat_lt, cond, Bool, true, false, List, [], ◌∷◌, ◌++◌, All, AllPairs, count_by, get_or, length, refl, sym, ap, arith, lt-ltb, ltb-true}
use Rattle.std.specs.List.{list_any}
use Rattle.std.proofs.lemmas.List.Elements.{All-nil, All-cons, All-head, All-tail, All-append}
use Rattle.std.proofs.lemmas.List.Folds.{list_any_at}
use Rattle.std.proofs.lemmas.List.Kept.{AllPairs-cons}
use Rattle.std.proofs.lemmas.List.Sums.{sum_by-cons}
use Rattle.pc_model.proofs.Lists.{AllPairs-head, AllPairs-tail}

module _ {X : Type 0} (P : X → Type 0) where
  pub all_first : (xs ys : List X) → All P (xs ++ ys) → All P xs
  all_first [] ys all = All-nil P
  all_first (x ∷ xs) ys all = All-cons P x xs (All-head P x (xs ++ ys) all) (all_first xs ys (All-tail P x (xs ++ ys) all))

  pub all_second : (xs ys : List X) → All P (xs ++ ys) → All P ys
  all_second [] ys all = all
  all_second (x ∷ xs) ys all = all_second xs ys (All-tail P x (xs ++ ys) all)

pub pairs_append : {X : Type 0} (R : X → X → Type 0) (xs ys : List X) → AllPairs R xs → AllPairs R ys → All (λ x. All (R x) ys) xs → AllPairs R (xs ++ ys)
pairs_append R [] ys first second across = second
pairs_append R (x ∷ xs) ys first second across =
    AllPairs-cons R x (xs ++ ys)
    (All-append (R x) xs ys (AllPairs-head R x xs first) (All-head (λ y. All (R y) ys) x xs across))
    (pairs_append R xs ys (AllPairs-tail R x xs first) second (All-tail (λ y. All (R y) ys) x xs across))

-- ---- counts

abbrev pub one_if : Bool → ℕ
one_if test = cond test 1 0

module _ {X : Type 0} (p : X → Bool) where
  pub more_counted : (x : X) (xs : List X) → count_by p (x ∷ xs) ≡ cond (p x) 1 0 + count_by p xs
  more_counted x xs = sum_by-cons (λ y. cond (p y) 1 0) x xs

  above_more : (test : Bool) (n : ℕ) → nat_lt 0 (cond test 1 0 + n) ≡ (test || nat_lt 0 n)
  above_more true n = lt-ltb 0 (1 + n) (omega arith)
  above_more false n = let same : 0 + n ≡ n = omega arith in ap (λ (k : ℕ). nat_lt 0 k) same

  -- one passes where the count is above nothing
  any_counted : (xs : List X) → nat_lt 0 (count_by p xs) ≡ list_any p xs
  any_counted [] = refl
  any_counted (x ∷ xs) =
      ap (λ (k : ℕ). nat_lt 0 k) (more_counted x xs) ∙ above_more (p x) (count_by p xs) ∙ ap (λ (later : Bool). p x || later) (any_counted xs)

  above_nothing : (test : Bool) → nat_lt 0 (cond test 1 0) ≡ test
  above_nothing true = refl
  above_nothing false = refl

  pub any_from_count : (xs : List X) (test : Bool) → count_by p xs ≡ cond test 1 0 → list_any p xs ≡ test
  any_from_count xs test counted = sym (any_counted xs) ∙ ap (λ (k : ℕ). nat_lt 0 k) counted ∙ above_nothing test

  pub one_counted : (xs : List X) (place : ℕ) (d : X) → place < length xs → p (get_or xs place d) ≡ true → 0 < count_by p xs
  one_counted xs place d here passes = ltb-true 0 (count_by p xs) (any_counted xs ∙ list_any_at p xs place d here passes)

  pub none_counted : (xs : List X) → All (λ x. p x ≡ false) xs → count_by p xs ≡ 0
  none_counted [] none = refl
  none_counted (x ∷ xs) none =
      let here = ap one_if (All-head (λ y. p y ≡ false) x xs none) in
      omega (arith, more_counted x xs, here, none_counted xs (All-tail (λ y. p y ≡ false) x xs none))

-- tests that agree count as many
pub counted_alike : {X : Type 0} (p q : X → Bool) (xs : List X) → ((x : X) → p x ≡ q x) → count_by p xs ≡ count_by q xs
counted_alike p q [] same = refl
counted_alike p q (x ∷ xs) same =
    omega (arith, more_counted p x xs, more_counted q x xs, ap one_if (same x), counted_alike p q xs same)

one_of_two : (a b : Bool) → cond (a || b) 1 0 ≤ cond a 1 0 + cond b 1 0
one_of_two true b = omega arith
one_of_two false b = omega arith

-- of two tests one passes at most as often as the first and the second together
pub either_counted : {X : Type 0} (p q : X → Bool) (xs : List X) → count_by (λ x. p x || q x) xs ≤ count_by p xs + count_by q xs
either_counted p q [] = omega arith
either_counted p q (x ∷ xs) =
    omega (arith, more_counted p x xs, more_counted q x xs, more_counted (λ y. p y || q y) x xs, one_of_two (p x) (q x), either_counted p q xs)
