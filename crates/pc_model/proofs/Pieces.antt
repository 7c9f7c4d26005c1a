-- Two lists side by side, of whose items pieces are made: those that stand so far, and those of the items that are left.
use Rattle.std.proofs.Common.{◌≡◌, ℕ, ◌+◌, ◌<◌, ◌≤◌, List, [], ◌∷◌, ◌++◌, length, get_or, drop, add-one, drop-cons, append_assoc}
use Rattle.std.proofs.lemmas.List.{append-nil, drop_all}

module _ {X Y Z : Type 0} (pieces : List X → List Y → List Z) where
  pub pieces_step : (piece : X → Y → List Z) → ((x : X) (xs : List X) (y : Y) (ys : List Y) → pieces (x ∷ xs) (y ∷ ys) ≡ piece x y ++ pieces xs ys) →
      (items : List Z) (xs : List X) (ys : List Y) (i : ℕ) (x : X) (y : Y) → i < length xs → i < length ys →
      (items ++ piece (get_or xs i x) (get_or ys i y)) ++ pieces (drop (i + 1) xs) (drop (i + 1) ys) ≡ items ++ pieces (drop i xs) (drop i ys)
  pieces_step piece next items xs ys i x y in_xs in_ys =
      rw (add-one, drop-cons xs i x in_xs, drop-cons ys i y in_ys, next) (append_assoc items (piece (get_or xs i x) (get_or ys i y)) _)

  pub pieces_past : ((ys : List Y) → pieces [] ys ≡ []) → (items : List Z) (xs : List X) (ys : List Y) (i : ℕ) → length xs ≤ i → items ++ pieces (drop i xs) (drop i ys) ≡ items
  pieces_past none items xs ys i past = rw (drop_all i xs past, none (drop i ys)) (append-nil items)

  pub pieces_spent : ((xs : List X) → pieces xs [] ≡ []) → (items : List Z) (xs : List X) (ys : List Y) (i : ℕ) → length ys ≤ i → items ++ pieces (drop i xs) (drop i ys) ≡ items
  pieces_spent none items xs ys i past = rw (drop_all i ys past, none (drop i xs)) (append-nil items)
