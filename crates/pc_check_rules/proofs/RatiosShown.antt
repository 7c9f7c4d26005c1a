-- What the numbers of rows and a tree at a ratio show of an end.
use Rattle.std.proofs.Common.{◌≡◌, ℤ, pos, neg_ℤ, ◌+ℤ◌, ◌-ℤ◌, ◌*ℤ◌, Bool, true, false, cond, ◌⊎◌, List, [], ◌∷◌, map, filter, Option, Some, None, refl, sym, ap, ap₂, subst, ◌∙◌}
use Rattle.std.specs.Prelude.{◌↔◌, IsSome, IsSomeAnd}
use Rattle.std.specs.List.{reduce}
use Rattle.std.specs.Int.{int_min, int_max}
use Rattle.pc_num.specs.declared.Frac.{Frac}
use Rattle.pc_model.specs.declared.query.Agg.{Agg}
use Rattle.pc_model.specs.declared.query.Agg.TheVariants.{Count, Sum, Min, Max, Avg}
use Rattle.pc_model.specs.declared.query.Folded.{Folded}
use Rattle.pc_model.specs.declared.tree.Tree.{Tree}
use Rattle.pc_model.specs.Aggregate.{Ratio, whole, IsAtMost}
use Rattle.pc_program_bound.specs.declared.program.Program.{Program}
use Rattle.pc_program_bound.specs.SplitTrees.{tree_of, Proves}
use Rattle.pc_proof.specs.declared.answer.Proof.TheVariants as proofs
use Rattle.pc_proof.specs.Setting.{Setting, column_of, leaves, cells}
use Rattle.pc_proof.specs.Table.{ratio_of, bound_for, seen_above, left_over, raised_by, lowered_by, greater_of, lesser_of, chosen_cells, greatest_number, least_number, high_program, low_program, ShowsHigh, ShowsLow}
use Rattle.pc_proof.specs.Observed.{ComesTo}
use Rattle.pc_proof.proofs.Masks.{map_twice}
use Rattle.pc_check_rules.specs.declared.cells.GatheredCell.{GatheredCell}
use Rattle.pc_check_rules.specs.declared.extreme.Extreme.{Extreme}
use Rattle.pc_check_rules.specs.declared.extreme.Extreme.TheVariants.{Low, High}
use Rattle.pc_check_rules.specs.Cells.{cell_of, cells_from}
use Rattle.pc_check_rules.specs.Scene.{HasMeasure}
use Rattle.pc_check_rules.specs.Programs.{table_program}
use Rattle.pc_check_rules.specs.Shown.{IsSmall, counted, rest_over, raised_at, lowered_at, chosen_only, greatest_on, least_on, RatioAt, ValuesAt}
use Rattle.pc_check_rules.specs.Findings.{ShowsEnd}
use Rattle.pc_check_rules.proofs.EndsShown.{sound_with, least_is, greatest_is, above_is}

itself : (A : Type 0) → A ↔ A
itself A = (λ a. a, λ a. a)

neither : ⊥ ↔ ⊥
neither = itself ⊥

-- ---- the numbers of the chosen cells

-- of a list made of another those are kept that are made of what is kept
module _ {X Y : Type 0} (f : X → Y) (passes : Y → Bool) where
  if_passes : (passed : Bool) (x : X) (xs : List X) (ys : List Y) → ys ≡ map f xs → cond passed (f x ∷ ys) ys ≡ map f (cond passed (x ∷ xs) xs)
  if_passes true x xs ys are = ap (λ later. f x ∷ later) are
  if_passes false x xs ys are = are

  kept_of_map : (xs : List X) → filter passes (map f xs) ≡ map f (filter (λ x. passes (f x)) xs)
  kept_of_map [] = refl
  kept_of_map (x ∷ xs) = if_passes (passes (f x)) x (filter (λ y. passes (f y)) xs) (filter passes (map f xs)) (kept_of_map xs)

module _ (s : Setting) (seen : Folded) (comes : ComesTo s.question seen) (listed : List GatheredCell) (cells_are : listed ≡ cells_from (column_of s.question) (leaves s)) where
  -- the numbers of cells are those of their classes
  numbers_are : (number : GatheredCell → ℤ)
      → map number (chosen_only listed) ≡ map (λ class. number (cell_of (column_of s.question) (leaves s) class)) (chosen_cells s)
  numbers_are number =
      ap (λ list. map number (chosen_only list)) cells_are
      ∙ ap (map number) (kept_of_map (cell_of (column_of s.question) (leaves s)) (λ (cell : GatheredCell). cell.chosen) (cells s))
      ∙ sym (map_twice number (cell_of (column_of s.question) (leaves s)) (chosen_cells s))

  greatest_same : IsSome s.question.query.column → greatest_number s ≡ greatest_on listed seen.greatest
  greatest_same measured = ap₂ (λ first numbers. greater_of first (reduce int_max numbers)) (greatest_is s seen comes measured) (sym (numbers_are (λ (cell : GatheredCell). cell.high)))

  least_same : IsSome s.question.query.column → least_number s ≡ least_on listed seen.least
  least_same measured = ap₂ (λ first numbers. lesser_of first (reduce int_min numbers)) (least_is s seen comes measured) (sym (numbers_are (λ (cell : GatheredCell). cell.low)))

  -- ---- without a tree

  pub by_values : (extreme : Extreme) (agg : Agg) (v : Ratio) → HasMeasure agg s.question.query.column → ValuesAt extreme agg listed seen v ↔ ShowsEnd extreme s agg v proofs.Values
  by_values High Count v measured = neither
  by_values High Sum v measured = neither
  by_values High Min v measured = neither
  by_values High Max v measured = neither
  by_values High Avg v measured =
      subst (λ greatest. IsSomeAnd greatest (λ g. IsAtMost (whole g) v) ↔ ShowsHigh s Avg v proofs.Values) (greatest_same measured) (itself (ShowsHigh s Avg v proofs.Values))
  by_values Low Count v measured = neither
  by_values Low Sum v measured = neither
  by_values Low Min v measured = neither
  by_values Low Max v measured = neither
  by_values Low Avg v measured =
      subst (λ least. IsSomeAnd least (λ m. IsAtMost v (whole m)) ↔ ShowsLow s Avg v proofs.Values) (least_same measured) (itself (ShowsLow s Avg v proofs.Values))

  -- ---- a tree at a ratio

  module _ (v : Ratio) (ratio : Frac) (t : Tree) (most : Option ℤ) (measured : IsSome s.question.query.column) where
    left_rest : (before : ℤ) (o : Option ℤ) → left_over before o ≡ rest_over before (counted o)
    left_rest before None = refl
    left_rest before (Some k) = refl

    abbrev IsBoundOf : Program → Type 0
    IsBoundOf p = most ≡ bound_for p t

    abbrev up : ℤ → ℤ → Ratio
    up count rest = record { num = ratio.num *ℤ int_max count (pos 1) +ℤ rest; den = ratio.den *ℤ int_max count (pos 1) }

    abbrev down : ℤ → ℤ → Ratio
    down count rest = record { num = ratio.num *ℤ int_max count (pos 1) -ℤ rest; den = ratio.den *ℤ int_max count (pos 1) }

    raised_same : IsBoundOf (high_program s Avg (ratio_of ratio)) → raised_by s (ratio_of ratio) t ≡ raised_at seen (ratio_of ratio) (counted most)
    raised_same is =
        ap₂ up comes.count
        (left_rest (seen_above s.question (ratio_of ratio)) (bound_for (high_program s Avg (ratio_of ratio)) t)
        ∙ ap₂ (λ before o. rest_over before (counted o)) (above_is s seen comes (ratio_of ratio) measured) (sym is))

    lowered_same : IsBoundOf (low_program s Avg (ratio_of ratio)) → lowered_by s (ratio_of ratio) t ≡ lowered_at seen (ratio_of ratio) (counted most)
    lowered_same is =
        ap₂ down comes.count
        (left_rest (neg_ℤ (seen_above s.question (ratio_of ratio))) (bound_for (low_program s Avg (ratio_of ratio)) t)
        ∙ ap₂ (λ before o. rest_over (neg_ℤ before) (counted o)) (above_is s seen comes (ratio_of ratio) measured) (sym is))

    abbrev IsOf : Program → Type 0
    IsOf p = Proves p p.floor p.cap (tree_of t.nodes) × (most ≡ bound_for p t)

    abbrev HighIs : Option ℤ → Ratio → Type 0
    HighIs greatest raised = IsSomeAnd greatest (λ g. IsAtMost raised v ⊎ IsAtMost (whole g) v)

    abbrev LowIs : Option ℤ → Ratio → Type 0
    LowIs least lowered = IsSomeAnd least (λ m. IsAtMost v lowered ⊎ IsAtMost v (whole m))

    pub by_ratio : (extreme : Extreme) → IsOf (table_program extreme s Avg (ratio_of ratio))
        → (IsSmall most × RatioAt extreme listed seen v (ratio_of ratio) (counted most)) ↔ ShowsEnd extreme s Avg v (proofs.At ratio t)
    by_ratio High of =
        let p = high_program s Avg (ratio_of ratio) in
        let as_it_stands = sound_with p t of.0 most of.1 (HighIs (greatest_number s) (raised_by s (ratio_of ratio) t)) in
        subst (λ greatest. (IsSmall most × HighIs greatest (raised_at seen (ratio_of ratio) (counted most))) ↔ ShowsHigh s Avg v (proofs.At ratio t)) (greatest_same measured)
        (subst (λ raised. (IsSmall most × HighIs (greatest_number s) raised) ↔ ShowsHigh s Avg v (proofs.At ratio t)) (raised_same of.1) as_it_stands)
    by_ratio Low of =
        let p = low_program s Avg (ratio_of ratio) in
        let as_it_stands = sound_with p t of.0 most of.1 (LowIs (least_number s) (lowered_by s (ratio_of ratio) t)) in
        subst (λ least. (IsSmall most × LowIs least (lowered_at seen (ratio_of ratio) (counted most))) ↔ ShowsLow s Avg v (proofs.At ratio t)) (least_same measured)
        (subst (λ lowered. (IsSmall most × LowIs (least_number s) lowered) ↔ ShowsLow s Avg v (proofs.At ratio t)) (lowered_same of.1) as_it_stands)
