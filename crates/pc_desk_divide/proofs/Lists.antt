-- Lists that are joined of lists.
use Rattle.std.proofs.Common.{◌≡◌, ◌∙◌, suc, ◌||◌, Bool, List, [], ◌∷◌, ◌++◌, All, flat_map, get_or, refl, ap, arith}
use Rattle.std.specs.Prelude.{AllPairs}
use Rattle.std.specs.List.{list_any}
use Rattle.std.proofs.lemmas.List.Elements.{All-append, All-head, All-nil, All-tail}
use Rattle.std.proofs.lemmas.List.Folds.{list_any-append}
use Rattle.std.proofs.lemmas.List.Kept.{AllPairs-cons}

module _ {X : Type 0} (R : X → X → Type 0) where
  pub pairs_head : (x : X) (xs : List X) → AllPairs R (x ∷ xs) → All (R x) xs
  pairs_head x xs h = λ k d inside. h 0 (suc k) d (omega arith) (omega arith)

  pub pairs_tail : (x : X) (xs : List X) → AllPairs R (x ∷ xs) → AllPairs R xs
  pairs_tail x xs h = λ i j d before inside. h (suc i) (suc j) d (omega arith) (omega arith)

  pub pairs_append : (xs ys : List X) → AllPairs R xs → AllPairs R ys → All (λ x. All (R x) ys) xs → AllPairs R (xs ++ ys)
  pairs_append [] ys first second cross = second
  pairs_append (x ∷ xs) ys first second cross =
      AllPairs-cons R x (xs ++ ys)
      (All-append (R x) xs ys (pairs_head x xs first) (All-head (λ y. All (R y) ys) x xs cross))
      (pairs_append xs ys (pairs_tail x xs first) second (All-tail (λ y. All (R y) ys) x xs cross))

module _ {X Y : Type 0} (f : X → List Y) where
  pub all_flat : (P : Y → Type 0) (xs : List X) → All (λ x. All P (f x)) xs → All P (flat_map f xs)
  all_flat P [] h = All-nil P
  all_flat P (x ∷ xs) h =
      All-append P (f x) (flat_map f xs) (All-head (λ y. All P (f y)) x xs h) (all_flat P xs (All-tail (λ y. All P (f y)) x xs h))

  -- pairs within one list, and pairs of one list and a later one
  pub pairs_flat : (R : Y → Y → Type 0) (xs : List X) → All (λ x. AllPairs R (f x)) xs → AllPairs (λ x y. All (λ a. All (R a) (f y)) (f x)) xs → AllPairs R (flat_map f xs)
  pairs_flat R [] own cross = λ i j d before inside. absurd (omega arith)
  pairs_flat R (x ∷ xs) own cross =
      pairs_append R (f x) (flat_map f xs)
      (All-head (λ y. AllPairs R (f y)) x xs own)
      (pairs_flat R xs (All-tail (λ y. AllPairs R (f y)) x xs own) (pairs_tail (λ y z. All (λ a. All (R a) (f z)) (f y)) x xs cross))
      (λ k d inside. all_flat (R (get_or (f x) k d)) xs
      (λ i e there. pairs_head (λ y z. All (λ a. All (R a) (f z)) (f y)) x xs cross i e there k d inside))

  -- some item of some list passes a test
  pub any_flat : (q : Y → Bool) (xs : List X) → list_any q (flat_map f xs) ≡ list_any (λ x. list_any q (f x)) xs
  any_flat q [] = refl
  any_flat q (x ∷ xs) = list_any-append q (f x) (flat_map f xs) ∙ ap (λ rest. list_any q (f x) || rest) (any_flat q xs)
