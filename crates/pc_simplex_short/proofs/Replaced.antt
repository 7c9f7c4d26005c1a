-- The rows before and after one that is replaced, where the others are changed in the same way.
use Rattle.std.proofs.Common.{◌≡◌, ◌<◌, ◌++◌, ℕ, zero, suc, List, [], ◌∷◌, length, set, take, drop, map, All, arith, refl, ap, sym, subst, ◌∙◌, add-one}
use Rattle.std.proofs.lemmas.List.{take-map, drop-map, set_split, drop-drop, length-map}
use Rattle.std.proofs.lemmas.List.Elements.{All-append, All-cons, All-nil, All-head, All-tail}
use Rattle.pc_simplex_tableau.specs.Tableau.{TableauRow}
use Rattle.pc_simplex_tableau.proofs.Pivoting.{IsSplit}

around : (g : TableauRow → TableauRow) (r : ℕ) (rows : List TableauRow) (y : TableauRow) → r < length rows
    → set (map g rows) r y ≡ map g (take r rows) ++ y ∷ map g (drop (suc r) rows)
around g r rows y h =
    let within : r < length (map g rows) = omega (arith, length-map rows g, h) in
    rw (set_split (map g rows) r y within, take-map g r rows, drop-map g (suc r) rows) refl

set_here : (rows : List TableauRow) (r : ℕ) (y : TableauRow) → r < length rows → set (take 1 (drop r rows)) 0 y ≡ y ∷ []
set_here [] r y h = absurd (omega arith)
set_here (x ∷ rows) zero y h = refl
set_here (x ∷ rows) (suc r) y h = set_here rows r y (omega arith)

all_first : (P : TableauRow → Type 0) (xs ys : List TableauRow) → All P (xs ++ ys) → All P xs
all_first P [] ys all = All-nil P
all_first P (x ∷ xs) ys all = All-cons P x xs (All-head P x (xs ++ ys) all) (all_first P xs ys (All-tail P x (xs ++ ys) all))

all_last : (P : TableauRow → Type 0) (xs ys : List TableauRow) → All P (xs ++ ys) → All P ys
all_last P [] ys all = all
all_last P (x ∷ xs) ys all = all_last P xs ys (All-tail P x (xs ++ ys) all)

module _ (rows before back own after : List TableauRow) (r : ℕ) (h : IsSplit rows before back own after r) where
  rest_is : after ≡ drop (suc r) rows
  rest_is = h.after_is ∙ ap (drop 1) h.back_is ∙ drop-drop 1 r rows ∙ ap (λ n. drop n rows) (add-one r)

  own_set : (y : TableauRow) → set own 0 y ≡ y ∷ []
  own_set y = ap (λ l. set l 0 y) (h.own_is ∙ ap (take 1) h.back_is) ∙ set_here rows r y h.within

  pub replaced : (g : TableauRow → TableauRow) (made left : List TableauRow) (y : TableauRow) → made ≡ map g before → left ≡ map g after
      → made ++ (set own 0 y ++ left) ≡ set (map g rows) r y
  replaced g made left y made_is left_is = rw (own_set y, made_is, left_is, h.before_is, rest_is) (sym (around g r rows y h.within))

  pub replaced_all : (P : TableauRow → Type 0) (made left : List TableauRow) (y : TableauRow) → All P made → P y → All P left
      → All P (made ++ (set own 0 y ++ left))
  replaced_all P made left y first own_holds second = rw (own_set y) (All-append P made (y ∷ left) first (All-cons P y left own_holds second))

  pub others_all : (P : TableauRow → Type 0) (g : TableauRow → TableauRow) (y : TableauRow) → All P (set (map g rows) r y)
      → All P (map g before) × All P (map g after)
  others_all P g y all =
      let first = map g (take r rows) in
      let last = map g (drop (suc r) rows) in
      let whole = subst (All P) (around g r rows y h.within) all in
      rw (h.before_is, rest_is) (all_first P first (y ∷ last) whole, All-tail P y last (all_last P first (y ∷ last) whole))
