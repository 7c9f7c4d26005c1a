-- A test of two lists, pair by pair, as far as a loop has come.
use Rattle.std.proofs.Common.{◌≡◌, ℕ, ◌+◌, ◌<◌, ◌≤◌, ◌&&◌, Bool, true, false, List, length, get_or, drop, refl, add-one, drop-cons}
use Rattle.std.proofs.lemmas.List.{drop_all}
use Rattle.std.specs.Cmp.Lexicographic.{pointwise, unequal}

module _ {A B : Type 0} (E : A → B → Bool) where
  -- the pair at a place, and the pairs after it
  pub pointwise-drop : (xs : List A) (ys : List B) (i : ℕ) (x : A) (y : B) → i < length xs → i < length ys → pointwise E (drop i xs) (drop i ys) ≡ (E (get_or xs i x) (get_or ys i y) && pointwise E (drop (i + 1) xs) (drop (i + 1) ys))
  pointwise-drop xs ys i x y in_xs in_ys = rw (add-one, drop-cons xs i x, drop-cons ys i y) refl

  -- nothing is left
  pub pointwise_end : (xs : List A) (ys : List B) (i : ℕ) → length xs ≤ i → length ys ≤ i → pointwise E (drop i xs) (drop i ys) ≡ true
  pointwise_end xs ys i past_xs past_ys = rw (drop_all i xs past_xs, drop_all i ys past_ys) refl

  -- lists of different lengths
  pub pointwise_uneven : (xs : List A) (ys : List B) → (length xs ≡ length ys → ⊥) → pointwise E xs ys ≡ false
  pointwise_uneven xs ys uneven = unequal E xs ys uneven

pub ruleset steps = (pointwise-drop, pointwise_end, pointwise_uneven)
