-- The rows before and after the one of a pivot.
use Rattle.std.proofs.Common.{◌≡◌, ◌<◌, ◌++◌, ◌&&◌, ℕ, zero, suc, ℤ, Bool, true, false, List, [], ◌∷◌, length, get_or, set, take, drop, map, All, arith, refl, ap, sym, ◌∙◌, add-one}
use Rattle.std.specs.List.{list_all}
use Rattle.std.proofs.lemmas.List.{take-map, drop-map, set_split, drop-drop, length-map}
use Rattle.std.proofs.lemmas.List.Elements.{All-append, All-cons}
use Rattle.pc_simplex_tableau.specs.Tableau.{TableauRow, no_row, freed_row, does_freed_row_fit, do_freed_rows_fit}
use Rattle.pc_simplex_tableau.specs.Conditions.{IsFitRow, row_in, pivoted_rows}

read_here : (rows : List TableauRow) (r : ℕ) (d e : TableauRow) → r < length rows → get_or (take 1 (drop r rows)) 0 d ≡ get_or rows r e
read_here [] r d e h = absurd (omega arith)
read_here (x ∷ rows) zero d e h = refl
read_here (x ∷ rows) (suc r) d e h = read_here rows r d e (omega arith)

set_here : (rows : List TableauRow) (r : ℕ) (y : TableauRow) → r < length rows → set (take 1 (drop r rows)) 0 y ≡ y ∷ []
set_here [] r y h = absurd (omega arith)
set_here (x ∷ rows) zero y h = refl
set_here (x ∷ rows) (suc r) y h = set_here rows r y (omega arith)

and_assoc : (a b c : Bool) → (a && (b && c)) ≡ (a && b && c)
and_assoc true b c = refl
and_assoc false b c = refl

-- the last of two tests
pub both : {a b : Bool} {r : Bool} → true ≡ a → r ≡ b → r ≡ (a && b)
both first second = rw (← first) second

fits_around : (c : ℕ) (other : List ℤ) (r : ℕ) (rows : List TableauRow) → r < length rows →
    do_freed_rows_fit c other r rows ≡ (list_all (does_freed_row_fit c other) (take r rows) && list_all (does_freed_row_fit c other) (drop (suc r) rows))
unfolding do_freed_rows_fit
fits_around c other r [] h = absurd (omega arith)
fits_around c other zero (row ∷ rows) h = refl
fits_around c other (suc r) (row ∷ rows) h =
    rw (fits_around c other r rows (omega arith))
    (and_assoc (does_freed_row_fit c other row) (list_all (does_freed_row_fit c other) (take r rows)) (list_all (does_freed_row_fit c other) (drop (suc r) rows)))

around : (c r : ℕ) (rows : List TableauRow) → r < length rows →
    pivoted_rows c r rows ≡ map (freed_row c (row_in rows r).numbers) (take r rows) ++ record { numbers = (row_in rows r).numbers; basic = c } ∷ map (freed_row c (row_in rows r).numbers) (drop (suc r) rows)
around c r rows h =
    let f = freed_row c (row_in rows r).numbers in
    let own : TableauRow = record { numbers = (row_in rows r).numbers; basic = c } in
    let within : r < length (map f rows) = omega (arith, length-map rows f, h) in
    rw (set_split (map f rows) r own within, take-map f r rows, drop-map f (suc r) rows) refl

-- the parts of the rows as they are split
pub record IsSplit (rows before back own after : List TableauRow) (r : ℕ) : Type 0 where
  pub within : r < length rows
  pub before_is : before ≡ take r rows
  pub back_is : back ≡ drop r rows
  pub own_is : own ≡ take 1 back
  pub after_is : after ≡ drop 1 back

module _ (rows before back own after : List TableauRow) (r : ℕ) (h : IsSplit rows before back own after r) where
  pub own_row : (x d : TableauRow) → x ≡ get_or own 0 d → x ≡ row_in rows r
  own_row x d e = e ∙ ap (λ l. get_or l 0 d) (h.own_is ∙ ap (take 1) h.back_is) ∙ read_here rows r d no_row h.within

  rest_is : after ≡ drop (suc r) rows
  rest_is = h.after_is ∙ ap (drop 1) h.back_is ∙ drop-drop 1 r rows ∙ ap (λ n. drop n rows) (add-one r)

  own_set : (y : TableauRow) → set own 0 y ≡ y ∷ []
  own_set y = ap (λ l. set l 0 y) (h.own_is ∙ ap (take 1) h.back_is) ∙ set_here rows r y h.within

  module _ (c : ℕ) (numbers : List ℤ) (e : numbers ≡ (row_in rows r).numbers) where
    pub fits_split : do_freed_rows_fit c (row_in rows r).numbers r rows ≡ (list_all (does_freed_row_fit c numbers) before && list_all (does_freed_row_fit c numbers) after)
    fits_split = rw (h.before_is, rest_is, e) (fits_around c (row_in rows r).numbers r rows h.within)

    pub pivoted_split : (made left : List TableauRow) (y : TableauRow) → y ≡ record { numbers = numbers; basic = c } → made ≡ map (freed_row c numbers) before →
        left ≡ map (freed_row c numbers) after → made ++ (set own 0 y ++ left) ≡ pivoted_rows c r rows
    pivoted_split made left y y_is made_is left_is =
        rw (own_set y, y_is, made_is, left_is, h.before_is, rest_is, e) (sym (around c r rows h.within))

  pub fits_joined : (made left : List TableauRow) (y : TableauRow) → All IsFitRow made → IsFitRow y → All IsFitRow left → All IsFitRow (made ++ (set own 0 y ++ left))
  fits_joined made left y made_fits fits left_fits =
      rw (own_set y) (All-append IsFitRow made (y ∷ left) made_fits (All-cons IsFitRow y left fits left_fits))
