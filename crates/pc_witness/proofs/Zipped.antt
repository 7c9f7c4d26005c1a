-- Relations between the items of two lists, place by place.
use Rattle.std.proofs.Common.{List, [], ◌∷◌}
use Rattle.std.specs.List.{All, AllZip}
use Rattle.std.proofs.lemmas.List.Elements.{All-nil, All-cons}

module _ {A B : Type 0} (R : A → B → Type 0) where
  pub AllZip-weaker : (Q : A → B → Type 0) → ((a : A) (b : B) → R a b → Q a b) → (xs : List A) (ys : List B) → AllZip R xs ys → AllZip Q xs ys
  AllZip-weaker Q so [] [] each = tt
  AllZip-weaker Q so [] (y ∷ ys) each = absurd each
  AllZip-weaker Q so (x ∷ xs) [] each = absurd each
  AllZip-weaker Q so (x ∷ xs) (y ∷ ys) each = (so x y each.0, AllZip-weaker Q so xs ys each.1)

  -- what the relation says of the second alone
  pub All-from_zip : (P : B → Type 0) → ((a : A) (b : B) → R a b → P b) → (xs : List A) (ys : List B) → AllZip R xs ys → All P ys
  All-from_zip P so [] [] each = All-nil P
  All-from_zip P so [] (y ∷ ys) each = absurd each
  All-from_zip P so (x ∷ xs) [] each = absurd each
  All-from_zip P so (x ∷ xs) (y ∷ ys) each = All-cons P y ys (so x y each.0) (All-from_zip P so xs ys each.1)
