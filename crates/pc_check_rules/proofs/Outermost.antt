-- The greatest and the least number of the chosen cells, as far as a loop over the cells has come.
use Rattle.std.proofs.Common.{◌≡◌, ℕ, ◌+◌, ◌<◌, ◌≤◌, ℤ, Bool, true, false, cond, List, [], ◌∷◌, length, map, fold, drop, get_or, Option, Some, None, refl, sym, ap, ◌∙◌, arith}
use Rattle.std.specs.List.{reduce}
use Rattle.std.specs.Int.{int_min, int_max}
use Rattle.std.proofs.lemmas.List.{drop_more, drop_all}
use Rattle.std.proofs.lemmas.Int.{ints, clamps}
use Rattle.pc_model.specs.Folds.{better}
use Rattle.pc_check_rules.specs.declared.cells.GatheredCell.{GatheredCell}
use Rattle.pc_check_rules.specs.Cells.{no_cell}
use Rattle.pc_check_rules.specs.Shown.{chosen_only, greatest_on, least_on}

module _ (pick : ℤ → ℤ → ℤ) (assoc : (a b c : ℤ) → pick (pick a b) c ≡ pick a (pick b c)) (number : GatheredCell → ℤ) where
  -- the better of two
  abbrev of_both : Option ℤ → Option ℤ → Option ℤ
  of_both None b = b
  of_both (Some x) None = Some x
  of_both (Some x) (Some y) = Some (pick x y)

  abbrev best : List GatheredCell → Option ℤ → Option ℤ
  best cells before = of_both before (reduce pick (map number (chosen_only cells)))

  fold-first : (a b : ℤ) (xs : List ℤ) → fold pick (pick a b) xs ≡ pick a (fold pick b xs)
  fold-first a b [] = refl
  fold-first a b (x ∷ xs) = ap (λ first. fold pick first xs) (assoc a b x) ∙ fold-first a (pick b x) xs

  best-cons : (before : Option ℤ) (x : ℤ) (xs : List ℤ) → of_both before (reduce pick (x ∷ xs)) ≡ of_both (Some (better pick before x)) (reduce pick xs)
  best-cons None x [] = refl
  best-cons None x (y ∷ ys) = ap Some (fold-first x y ys)
  best-cons (Some a) x [] = refl
  best-cons (Some a) x (y ∷ ys) = ap Some (ap (pick a) (fold-first x y ys) ∙ sym (assoc a x (fold pick y ys)))

  by_choice : (chosen : Bool) (before : Option ℤ) (x : ℤ) (cells : List GatheredCell)
      → of_both before (reduce pick (cond chosen (x ∷ map number (chosen_only cells)) (map number (chosen_only cells)))) ≡ best cells (cond chosen (Some (better pick before x)) before)
  by_choice true before x cells = best-cons before x (map number (chosen_only cells))
  by_choice false before x cells = refl

  listed : (cell : GatheredCell) (cells : List GatheredCell) → map number (chosen_only (cell ∷ cells)) ≡ cond cell.chosen (number cell ∷ map number (chosen_only cells)) (map number (chosen_only cells))
  listed cell cells = by_chosen cell.chosen refl
    where
      by_chosen : (chosen : Bool) → cell.chosen ≡ chosen → map number (chosen_only (cell ∷ cells)) ≡ cond chosen (number cell ∷ map number (chosen_only cells)) (map number (chosen_only cells))
      by_chosen true is = rw is refl
      by_chosen false is = rw is refl

  further : (before : Option ℤ) (cells : List GatheredCell) (place : ℕ) (cell : GatheredCell) → place < length cells → get_or cells place no_cell ≡ cell
      → best (drop (place + 1) cells) (cond cell.chosen (Some (better pick before (number cell))) before) ≡ best (drop place cells) before
  further before cells place cell there is =
      let front : drop place cells ≡ cell ∷ drop (place + 1) cells = drop_more cells place no_cell there ∙ ap (λ first. first ∷ drop (place + 1) cells) is in
      sym (ap (λ left. best left before) front ∙ ap (λ numbers. of_both before (reduce pick numbers)) (listed cell (drop (place + 1) cells))
      ∙ by_choice cell.chosen before (number cell) (drop (place + 1) cells))

  whole : (before : Option ℤ) (cells : List GatheredCell) (place : ℕ) → length cells ≤ place → best (drop place cells) before ≡ before
  whole before cells place past = ap (λ left. best left before) (drop_all place cells past) ∙ by_before before
    where
      by_before : (o : Option ℤ) → of_both o None ≡ o
      by_before None = refl
      by_before (Some x) = refl

pub greatest_further : (before after : Option ℤ) (cells : List GatheredCell) (place : ℕ) → place < length cells
    → after ≡ cond (get_or cells place no_cell).chosen (Some (better int_max before (get_or cells place no_cell).high)) before
    → greatest_on (drop (place + 1) cells) after ≡ greatest_on (drop place cells) before
greatest_further before after cells place there is =
    ap (greatest_on (drop (place + 1) cells)) is
    ∙ further int_max (λ a b c. omega (arith, ints, clamps)) (λ (each : GatheredCell). each.high) before cells place (get_or cells place no_cell) there refl

pub greatest_whole : (before : Option ℤ) (cells : List GatheredCell) (place : ℕ) → length cells ≤ place → greatest_on (drop place cells) before ≡ before
greatest_whole before cells place past = whole int_max (λ a b c. omega (arith, ints, clamps)) (λ (each : GatheredCell). each.high) before cells place past

pub least_further : (before after : Option ℤ) (cells : List GatheredCell) (place : ℕ) → place < length cells
    → after ≡ cond (get_or cells place no_cell).chosen (Some (better int_min before (get_or cells place no_cell).low)) before
    → least_on (drop (place + 1) cells) after ≡ least_on (drop place cells) before
least_further before after cells place there is =
    ap (least_on (drop (place + 1) cells)) is
    ∙ further int_min (λ a b c. omega (arith, ints, clamps)) (λ (each : GatheredCell). each.low) before cells place (get_or cells place no_cell) there refl

pub least_whole : (before : Option ℤ) (cells : List GatheredCell) (place : ℕ) → length cells ≤ place → least_on (drop place cells) before ≡ before
least_whole before cells place past = whole int_min (λ a b c. omega (arith, ints, clamps)) (λ (each : GatheredCell). each.low) before cells place past
