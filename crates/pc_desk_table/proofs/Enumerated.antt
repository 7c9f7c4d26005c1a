-- Lists that are made of items with their places, as far as a loop has come.
use Rattle.std.proofs.Common.{◌≡◌, ℕ, zero, suc, ◌+◌, ◌<◌, ◌≤◌, List, [], ◌∷◌, ◌++◌, fold, get_or, length, map, take, refl, ap, arith, ◌∙◌}
use Rattle.std.specs.List.{enumerate_from}
use Rattle.std.proofs.lemmas.List.{map-append, take_more}
use Rattle.std.proofs.lemmas.List.Sums.{fold-append}

module _ {X : Type 0} where
  enumerate_push : (n : ℕ) (xs : List X) (x : X) → enumerate_from n (xs ++ x ∷ []) ≡ enumerate_from n xs ++ (n + length xs, x) ∷ []
  enumerate_push n [] x = let e : n ≡ n + 0 = omega arith in ap (λ (k : ℕ). (k, x) ∷ []) e
  enumerate_push n (y ∷ xs) x =
      let e : n + 1 + length xs ≡ n + suc (length xs) = omega arith in
      ap (λ rest. (n, y) ∷ rest) (enumerate_push (n + 1) xs x ∙ ap (λ (k : ℕ). enumerate_from (n + 1) xs ++ (k, x) ∷ []) e)

  length-take : (xs : List X) (i : ℕ) → i ≤ length xs → length (take i xs) ≡ i
  length-take xs zero few = refl
  length-take [] (suc i) few = absurd (omega (arith, few))
  length-take (x ∷ xs) (suc i) few = ap suc (length-take xs i (omega (arith, few)))

  pub enumerate_more : (xs : List X) (i : ℕ) (d : X) → i < length xs → enumerate_from 0 (take (i + 1) xs) ≡ enumerate_from 0 (take i xs) ++ (i, get_or xs i d) ∷ []
  enumerate_more xs i d here =
      let long = length-take xs i (omega (arith, here)) in
      let at : 0 + length (take i xs) ≡ i = omega (arith, long) in
      ap (enumerate_from 0) (take_more xs i d here) ∙ enumerate_push 0 (take i xs) (get_or xs i d)
      ∙ ap (λ (k : ℕ). enumerate_from 0 (take i xs) ++ (k, get_or xs i d) ∷ []) at

  pub map_enumerate_more : {Y : Type 0} (f : ℕ × X → Y) → (xs : List X) (i : ℕ) (d : X) → i < length xs
      → map f (enumerate_from 0 (take (i + 1) xs)) ≡ map f (enumerate_from 0 (take i xs)) ++ f (i, get_or xs i d) ∷ []
  map_enumerate_more f xs i d here = ap (map f) (enumerate_more xs i d here) ∙ map-append f (enumerate_from 0 (take i xs)) ((i, get_or xs i d) ∷ [])

  pub fold_enumerate_more : {B : Type 0} (f : B → ℕ × X → B) → (a : B) (xs : List X) (i : ℕ) (d : X) → i < length xs
      → fold f a (enumerate_from 0 (take (i + 1) xs)) ≡ f (fold f a (enumerate_from 0 (take i xs))) (i, get_or xs i d)
  fold_enumerate_more f a xs i d here = ap (fold f a) (enumerate_more xs i d here) ∙ fold-append f a (enumerate_from 0 (take i xs)) ((i, get_or xs i d) ∷ [])

pub ruleset steps = (map_enumerate_more, fold_enumerate_more)
