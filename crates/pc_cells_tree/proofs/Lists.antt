-- Facts of all items of a list or of some, from a place on, and with one item more.
use Rattle.std.proofs.Common.{ℕ, zero, suc, ◌+◌, ◌<◌, ◌⊎◌, inl, inr, List, [], ◌∷◌, ◌++◌, length, get_or, drop, sym, subst, arith, All, Any}
use Rattle.std.proofs.lemmas.List.{drop_more, get_or_default}
use Rattle.std.proofs.lemmas.List.Elements.{All-cons}

module _ {X : Type 0} (P : X → Type 0) where
  -- ---- at a place

  pub any_at : (xs : List X) (place : ℕ) (d : X) → place < length xs → P (get_or xs place d) → Any P xs
  any_at xs place d there held = (place, get_or xs place d, there, get_or_default xs place (get_or xs place d) d there, held)

  pub all_from : (xs : List X) (place : ℕ) (d : X) → place < length xs → P (get_or xs place d) → All P (drop (place + 1) xs) → All P (drop place xs)
  all_from xs place d there here later = subst (All P) (sym (drop_more xs place d there)) (All-cons P (get_or xs place d) (drop (place + 1) xs) here later)

  pub none-cons : (x : X) (xs : List X) → (P x → ⊥) → (Any P xs → ⊥) → Any P (x ∷ xs) → ⊥
  none-cons x xs first later (zero, y, inside, is, held) = first (subst P (sym is) held)
  none-cons x xs first later (suc k, y, inside, is, held) = later (k, y, omega (arith, inside), is, held)

  pub none_from : (xs : List X) (place : ℕ) (d : X) → place < length xs → (P (get_or xs place d) → ⊥) → (Any P (drop (place + 1) xs) → ⊥) → Any P (drop place xs) → ⊥
  none_from xs place d there here later = subst (λ ys. Any P ys → ⊥) (sym (drop_more xs place d there)) (none-cons (get_or xs place d) (drop (place + 1) xs) here later)

  -- ---- one item more at the end

  pub any_split : (xs : List X) (y : X) → Any P (xs ++ y ∷ []) → Any P xs ⊎ P y
  any_split [] y (zero, x, inside, is, held) = inr (subst P (sym is) held)
  any_split [] y (suc k, x, inside, is, held) = absurd (omega (arith, inside))
  any_split (z ∷ zs) y (zero, x, inside, is, held) = inl (0, x, omega arith, is, held)
  any_split (z ∷ zs) y (suc k, x, inside, is, held) = one_on (any_split zs y (k, x, omega (arith, inside), is, held))
    where
      one_on : Any P zs ⊎ P y → Any P (z ∷ zs) ⊎ P y
      one_on (inl found) = inl (suc found.0, found.1, omega (arith, found.2), found.3, found.4)
      one_on (inr held) = inr held

  pub any_longer : (xs : List X) (y : X) → Any P xs → Any P (xs ++ y ∷ [])
  any_longer [] y (k, x, inside, is, held) = absurd (omega (arith, inside))
  any_longer (z ∷ zs) y (zero, x, inside, is, held) = (0, x, omega arith, is, held)
  any_longer (z ∷ zs) y (suc k, x, inside, is, held) =
      let found = any_longer zs y (k, x, omega (arith, inside), is, held) in
      (suc found.0, found.1, omega (arith, found.2), found.3, found.4)

  pub all_shorter : (xs : List X) (y : X) → All P (xs ++ y ∷ []) → All P xs
  all_shorter [] y all = λ k d inside. absurd (omega (arith, inside))
  all_shorter (x ∷ xs) y all = All-cons P x xs (all 0 x (omega arith)) (all_shorter xs y (λ k d inside. all (suc k) d (omega (arith, inside))))

  pub last_of : (xs : List X) (y : X) → All P (xs ++ y ∷ []) → P y
  last_of [] y all = all 0 y (omega arith)
  last_of (x ∷ xs) y all = last_of xs y (λ k d inside. all (suc k) d (omega (arith, inside)))
