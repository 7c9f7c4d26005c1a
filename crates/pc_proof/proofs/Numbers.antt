-- The least and the greatest of whole numbers, sums of them, and lists of those that pass a test.
use Rattle.std.proofs.Common.{◌≡◌, ℤ, pos, ◌*ℤ◌, ◌≤ℤ◌, ◌<ℤ◌, Bool, true, false, cond, List, [], ◌∷◌, length, get_or, map, filter, fold, All, IfSome, IsSomeAnd, ◌⊎◌, inl, inr, refl, sym, ◌∙◌, true≢false, arith}
use Rattle.std.specs.Prelude.{int_lt}
use Rattle.std.specs.List.{reduce}
use Rattle.std.specs.Int.{int_min, int_max}
use Rattle.std.proofs.lemmas.Int.{ints, by_lt_z, fold-int_min_bounds, fold-int_max_bounds}
use Rattle.std.proofs.lemmas.List.Elements.{All-nil, All-cons, All-head, All-tail}
use Rattle.pc_model.specs.Aggregate.{Ratio, whole, IsAtMost, int_sum}
use Rattle.pc_program_bound.proofs.Ring.{mul-more}
use Rattle.pc_proof.proofs.Fractions.{higher, lower}

-- ---- what holds of each number holds of the one that is picked

module _ (P : ℤ → Type 0) (pick : ℤ → ℤ → ℤ) (picks : (a b : ℤ) → P a → P b → P (pick a b)) where
  fold_keeps : (a : ℤ) (xs : List ℤ) → P a → All P xs → P (fold pick a xs)
  fold_keeps a [] first each = first
  fold_keeps a (x ∷ xs) first each = fold_keeps (pick a x) xs (picks a x first (All-head P x xs each)) (All-tail P x xs each)

  reduce_keeps : (xs : List ℤ) → All P xs → IfSome (reduce pick xs) P
  reduce_keeps [] each = tt
  reduce_keeps (x ∷ xs) each = fold_keeps x xs (All-head P x xs each) (All-tail P x xs each)

one_of : (P : ℤ → Type 0) (test : Bool) (a b : ℤ) → P a → P b → P (cond test a b)
one_of P true a b first second = first
one_of P false a b first second = second

pub least_keeps : (P : ℤ → Type 0) (xs : List ℤ) → All P xs → IfSome (reduce int_min xs) P
least_keeps P xs each = reduce_keeps P int_min (λ a b first second. one_of P (int_lt b a) b a second first) xs each

pub greatest_keeps : (P : ℤ → Type 0) (xs : List ℤ) → All P xs → IfSome (reduce int_max xs) P
greatest_keeps P xs each = reduce_keeps P int_max (λ a b first second. one_of P (int_lt b a) a b first second) xs each

-- ---- and the other way, for what goes up or down

pub all_from_least : (P : ℤ → Type 0) (xs : List ℤ) → ((m n : ℤ) → m ≤ℤ n → P m → P n) → IfSome (reduce int_min xs) P → All P xs
all_from_least P [] up least = All-nil P
all_from_least P (x ∷ xs) up least =
    let bounds = fold-int_min_bounds x xs (fold int_min x xs) refl in
    All-cons P x xs (up (fold int_min x xs) x bounds.0 least) (λ place d inside. up (fold int_min x xs) (get_or xs place d) (bounds.1 place d inside) least)

pub all_from_greatest : (P : ℤ → Type 0) (xs : List ℤ) → ((m n : ℤ) → m ≤ℤ n → P n → P m) → IfSome (reduce int_max xs) P → All P xs
all_from_greatest P [] down greatest = All-nil P
all_from_greatest P (x ∷ xs) down greatest =
    let bounds = fold-int_max_bounds x xs (fold int_max x xs) refl in
    All-cons P x xs (down x (fold int_max x xs) bounds.0 greatest) (λ place d inside. down (get_or xs place d) (fold int_max x xs) (bounds.1 place d inside) greatest)

-- each number is at most the greatest, and there is one
pub each_under_greatest : (xs : List ℤ) → All (λ n. IsSomeAnd (reduce int_max xs) (λ g. n ≤ℤ g)) xs
each_under_greatest [] = All-nil (λ n. IsSomeAnd (reduce int_max []) (λ g. n ≤ℤ g))
each_under_greatest (x ∷ xs) =
    let bounds = fold-int_max_bounds x xs (fold int_max x xs) refl in
    All-cons (λ n. n ≤ℤ fold int_max x xs) x xs bounds.0 bounds.1

pub each_over_least : (xs : List ℤ) → All (λ n. IsSomeAnd (reduce int_min xs) (λ m. m ≤ℤ n)) xs
each_over_least [] = All-nil (λ n. IsSomeAnd (reduce int_min []) (λ m. m ≤ℤ n))
each_over_least (x ∷ xs) =
    let bounds = fold-int_min_bounds x xs (fold int_min x xs) refl in
    All-cons (λ n. fold int_min x xs ≤ℤ n) x xs bounds.0 bounds.1

-- ---- beside a fraction

module _ (v : Ratio) (above : pos 0 <ℤ v.den) where
  -- the least is within it, or all are above it
  pub least_within : (xs : List ℤ) → IfSome (reduce int_min xs) (λ m. IsAtMost (whole m) v) ⊎ All (λ n. v.num <ℤ (n *ℤ v.den)) xs
  least_within [] = inl tt
  least_within (x ∷ xs) =
      by_lt_z v.num (fold int_min x xs *ℤ v.den)
      (λ over. inr (all_from_least (λ n. v.num <ℤ (n *ℤ v.den)) (x ∷ xs) (λ m n below over. higher m n v above below over) over))
      (λ within. inl (omega (arith, ints)))

  -- the greatest is from it, or all are below it
  pub greatest_from : (xs : List ℤ) → IfSome (reduce int_max xs) (λ m. IsAtMost v (whole m)) ⊎ All (λ n. (n *ℤ v.den) <ℤ v.num) xs
  greatest_from [] = inl tt
  greatest_from (x ∷ xs) =
      by_lt_z (fold int_max x xs *ℤ v.den) v.num
      (λ under. inr (all_from_greatest (λ n. (n *ℤ v.den) <ℤ v.num) (x ∷ xs) (λ m n below under. lower m n v above below under) under))
      (λ from. inl (omega (arith, ints)))

-- ---- those that pass a test

module _ {X : Type 0} (passes : X → Bool) where
  pub All-kept : (P : X → Type 0) (xs : List X) → All (λ x. passes x ≡ true → P x) xs → All P (filter passes xs)
  All-kept P [] each = All-nil P
  All-kept P (x ∷ xs) each =
      by_test (passes x) (All-head (λ y. passes y ≡ true → P y) x xs each) (All-kept P xs (All-tail (λ y. passes y ≡ true → P y) x xs each))
    where
      by_test : (test : Bool) → (test ≡ true → P x) → All P (filter passes xs) → All P (cond test (x ∷ filter passes xs) (filter passes xs))
      by_test true first later = All-cons P x (filter passes xs) (first refl) later
      by_test false first later = later

  pub All-kept_back : (f : X → ℤ) (P : ℤ → Type 0) (xs : List X) → All P (map f (filter passes xs)) → All (λ x. passes x ≡ true → P (f x)) xs
  All-kept_back f P [] each = All-nil (λ x. passes x ≡ true → P (f x))
  All-kept_back f P (x ∷ xs) each = by_test (passes x) refl each (All-kept_back f P xs)
    where
      by_test : (test : Bool) → passes x ≡ test → All P (map f (cond test (x ∷ filter passes xs) (filter passes xs))) →
          (All P (map f (filter passes xs)) → All (λ y. passes y ≡ true → P (f y)) xs) → All (λ y. passes y ≡ true → P (f y)) (x ∷ xs)
      by_test true is all later =
          All-cons (λ y. passes y ≡ true → P (f y)) x xs (λ passed. All-head P (f x) (map f (filter passes xs)) all)
          (later (All-tail P (f x) (map f (filter passes xs)) all))
      by_test false is all later =
          All-cons (λ y. passes y ≡ true → P (f y)) x xs (λ passed. absurd (true≢false (sym passed ∙ is))) (later all)

-- ---- sums

module _ {X : Type 0} (f : X → ℤ) where
  pub sum_some : (xs : List X) → All (λ x. pos 0 ≤ℤ f x) xs → pos 0 ≤ℤ int_sum (map f xs)
  sum_some [] each = omega (arith, ints)
  sum_some (x ∷ xs) each =
      let first = All-head (λ y. pos 0 ≤ℤ f y) x xs each in
      let rest = sum_some xs (All-tail (λ y. pos 0 ≤ℤ f y) x xs each) in
      omega (arith, ints)

  -- a sum of none below 0 that is not above 0 has none above 0
  pub sum_none : (xs : List X) → All (λ x. pos 0 ≤ℤ f x) xs → int_sum (map f xs) ≤ℤ pos 0 → All (λ x. f x ≤ℤ pos 0) xs
  sum_none [] each few = All-nil (λ x. f x ≤ℤ pos 0)
  sum_none (x ∷ xs) each few =
      let first = All-head (λ y. pos 0 ≤ℤ f y) x xs each in
      let later = All-tail (λ y. pos 0 ≤ℤ f y) x xs each in
      let rest = sum_some xs later in
      All-cons (λ y. f y ≤ℤ pos 0) x xs (omega (arith, ints)) (sum_none xs later (omega (arith, ints)))

-- numbers that a number bounds
pub sum_under : (g : ℤ) (xs : List ℤ) → All (λ n. n ≤ℤ g) xs → int_sum xs ≤ℤ (g *ℤ pos (length xs))
sum_under g [] each = omega (arith, ints)
sum_under g (x ∷ xs) each =
    let first = All-head (λ n. n ≤ℤ g) x xs each in
    let rest = sum_under g xs (All-tail (λ n. n ≤ℤ g) x xs each) in
    omega (arith, ints, mul-more g (length xs))

pub sum_over : (m : ℤ) (xs : List ℤ) → All (λ n. m ≤ℤ n) xs → (m *ℤ pos (length xs)) ≤ℤ int_sum xs
sum_over m [] each = omega (arith, ints)
sum_over m (x ∷ xs) each =
    let first = All-head (λ n. m ≤ℤ n) x xs each in
    let rest = sum_over m xs (All-tail (λ n. m ≤ℤ n) x xs each) in
    omega (arith, ints, mul-more m (length xs))

pub none_from_length : {X : Type 0} (xs : List X) → pos (length xs) ≤ℤ pos 0 → xs ≡ []
none_from_length [] few = refl
none_from_length (x ∷ xs) few = absurd (omega (arith, ints))
