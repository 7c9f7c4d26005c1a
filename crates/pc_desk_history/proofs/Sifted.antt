-- Lists of which tests keep some.
use Rattle.std.proofs.Common.{◌≡◌, ◌∙◌, ◌||◌, Bool, true, false, cond, List, [], ◌∷◌, All, length, filter, refl, sym, ap, true≢false}
use Rattle.std.specs.Prelude.{count_by}
use Rattle.std.specs.List.{list_any}
use Rattle.std.proofs.lemmas.List.Elements.{All-cons, All-head, All-nil, All-tail}
use Rattle.std.proofs.lemmas.List.Sums.{length-filter}

-- what does not pass is not kept
none_kept : {X : Type 0} (p : X → Bool) (xs : List X) → list_any p xs ≡ false → filter p xs ≡ []
none_kept p [] none = refl
none_kept p (x ∷ xs) none = by_test (p x) none (none_kept p xs)
  where
    by_test : (test : Bool) → (test || list_any p xs) ≡ false → (list_any p xs ≡ false → filter p xs ≡ []) → cond test (x ∷ filter p xs) (filter p xs) ≡ []
    by_test true none later = absurd (true≢false none)
    by_test false none later = later none

-- what holds of all that is kept holds of what passes
pub all_passing : {X : Type 0} (p : X → Bool) (Q : X → Type 0) (xs : List X) → All Q (filter p xs) → All (λ x. p x ≡ true → Q x) xs
all_passing p Q [] all = All-nil (λ x. p x ≡ true → Q x)
all_passing p Q (x ∷ xs) all = by_test (p x) refl all (all_passing p Q xs)
  where
    by_test : (test : Bool) → p x ≡ test → All Q (cond test (x ∷ filter p xs) (filter p xs)) → (All Q (filter p xs) → All (λ y. p y ≡ true → Q y) xs) → All (λ y. p y ≡ true → Q y) (x ∷ xs)
    by_test true e all later = All-cons (λ y. p y ≡ true → Q y) x xs (λ passes. All-head Q x (filter p xs) all) (later (All-tail Q x (filter p xs) all))
    by_test false e all later = All-cons (λ y. p y ≡ true → Q y) x xs (λ passes. absurd (true≢false (sym passes ∙ e))) (later all)

module _ {X : Type 0} (a b p : X → Bool) where
  -- where the first test is stricter than the second, it does not matter that the second was passed before
  kept_twice : (xs : List X) → All (λ x. a x ≡ true → b x ≡ true) xs → filter a (filter p (filter b xs)) ≡ filter p (filter a xs)
  kept_twice [] within = refl
  kept_twice (x ∷ xs) within =
      by_tests (a x) (b x) (p x) refl refl refl (All-head (λ y. a y ≡ true → b y ≡ true) x xs within) (kept_twice xs (All-tail (λ y. a y ≡ true → b y ≡ true) x xs within))
    where
      by_tests : (s t u : Bool) → a x ≡ s → b x ≡ t → p x ≡ u → (a x ≡ true → b x ≡ true) → filter a (filter p (filter b xs)) ≡ filter p (filter a xs) →
          filter a (filter p (filter b (x ∷ xs))) ≡ filter p (filter a (x ∷ xs))
      by_tests true true true e f g stricter later = rw (f, g, e, g, later) refl
      by_tests true true false e f g stricter later = rw (f, g, e, g, later) refl
      by_tests true false u e f g stricter later = absurd (true≢false (sym (stricter e) ∙ f))
      by_tests false true true e f g stricter later = rw (f, g, e, later) refl
      by_tests false true false e f g stricter later = rw (f, g, e, later) refl
      by_tests false false u e f g stricter later = rw (f, e, later) refl

  pub counted_twice : (xs : List X) → All (λ x. a x ≡ true → b x ≡ true) xs → count_by a (filter p (filter b xs)) ≡ count_by p (filter a xs)
  counted_twice xs within = sym (length-filter a (filter p (filter b xs))) ∙ ap length (kept_twice xs within) ∙ length-filter p (filter a xs)

  pub none_counted : (xs : List X) → All (λ x. a x ≡ true → b x ≡ true) xs → list_any p (filter b xs) ≡ false → count_by p (filter a xs) ≡ 0
  none_counted xs within none = sym (counted_twice xs within) ∙ ap (count_by a) (none_kept p (filter b xs) none)
