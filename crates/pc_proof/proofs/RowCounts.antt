-- Rows counted by class: a sum over classes of what each gains, as often as it has rows, is a sum over the rows.
use Rattle.std.proofs.Common.{◌≡◌, suc, ◌+◌, ℤ, pos, ◌+ℤ◌, ◌*ℤ◌, Bool, true, false, cond, ◌||◌, List, [], ◌∷◌, map, All, AllPairs, Contains, slice_index_or, refl, sym, ap, ap₂, subst, ◌∙◌, true≢false, arith}
use lib.IntN.{*ℤ-zero, +ℤ_idl}
use Rattle.std.specs.List.{list_any}
use Rattle.std.proofs.lemmas.Int.{ints}
use Rattle.std.proofs.lemmas.List.Elements.{All-head, All-tail}
use Rattle.pc_model.specs.declared.row.Row.{Row}
use Rattle.pc_model.specs.declared.area.Area.{Area}
use Rattle.pc_model.specs.declared.constraint.Constraint.{Constraint}
use Rattle.pc_model.specs.Aggregate.{int_sum}
use Rattle.pc_model.specs.Cells.{Class, class_of, is_class}
use Rattle.pc_model.proofs.Lists.{AllPairs-head, AllPairs-tail}
use Rattle.pc_cells_laws.proofs.Classes.{is_class-same}
use Rattle.pc_cells_laws.proofs.Cells.{listed-from_contained}
use Rattle.pc_program_bound.specs.CellPrograms.{count_in}
use Rattle.pc_program_bound.proofs.Ring.{mul-more}
use Rattle.pc_model.proofs.Tallies.{count_by-cons}
use Rattle.pc_proof.proofs.RowSums.{int_sum-same, int_sum-add, int_sum-none}

-- ---- one class among those listed

abbrev Differ : Class → Class → Type 0
Differ a b = is_class a b ≡ false

-- no class is listed twice
abbrev pub AreDifferent : List Class → Type 0
AreDifferent classes = AllPairs Differ classes

-- what a class gains if it is this one
abbrev gain_if : (Class → ℤ) → Class → Class → ℤ
gain_if gain class other = cond (is_class class other) (gain other) (pos 0)

no_other : (gain : Class → ℤ) (class : Class) (classes : List Class) → All (Differ class) classes → int_sum (map (gain_if gain class) classes) ≡ pos 0
no_other gain class classes differ = int_sum-none (gain_if gain class) classes (λ i d inside. ap (λ test. cond test (gain (slice_index_or classes i d)) (pos 0)) (differ i d inside))

sum_of_listed : (gain : Class → ℤ) (class : Class) (classes : List Class) → AreDifferent classes → list_any (is_class class) classes ≡ true →
    int_sum (map (gain_if gain class) classes) ≡ gain class
sum_of_listed gain class [] differ listed = absurd (true≢false (sym listed))
sum_of_listed gain class (c ∷ classes) differ listed =
    by_first (is_class class c) refl listed (sum_of_listed gain class classes (AllPairs-tail Differ c classes differ))
  where
    by_first : (same : Bool) → is_class class c ≡ same → (same || list_any (is_class class) classes) ≡ true →
        (list_any (is_class class) classes ≡ true → int_sum (map (gain_if gain class) classes) ≡ gain class) →
        cond same (gain c) (pos 0) +ℤ int_sum (map (gain_if gain class) classes) ≡ gain class
    by_first true e found later =
        let same = is_class-same class c e in
        let others = subst (λ (first : Class). All (Differ first) classes) (sym same) (AllPairs-head Differ c classes differ) in
        omega (arith, ints, ap gain same, no_other gain class classes others)
    by_first false e found later = omega (arith, ints, later found)

-- ---- the rows of all classes

-- the class of each row is listed
abbrev pub AreInClasses : List Constraint → Area → List Class → List Row → Type 0
AreInClasses constraints chosen classes rows = All (λ (row : Row). Contains classes (class_of constraints chosen row)) rows

module _ (constraints : List Constraint) (chosen : Area) (classes : List Class) (differ : AreDifferent classes) where
  abbrev gain_by_count : (Class → ℤ) → List Row → Class → ℤ
  gain_by_count gain rows class = gain class *ℤ pos (count_in constraints chosen rows class)

  -- one more row gains what its class does
  one_more_row : (gain : Class → ℤ) (row : Row) (rows : List Row) (class : Class) →
      gain_by_count gain (row ∷ rows) class ≡ gain_if gain (class_of constraints chosen row) class +ℤ gain_by_count gain rows class
  one_more_row gain row rows class =
      ap (λ n. gain class *ℤ pos n) (count_by-cons (λ (r : Row). is_class (class_of constraints chosen r) class) row rows) ∙ by_class (is_class (class_of constraints chosen row) class)
    where
      by_class : (same : Bool) → gain class *ℤ pos (cond same 1 0 + count_in constraints chosen rows class) ≡ cond same (gain class) (pos 0) +ℤ gain_by_count gain rows class
      by_class true =
          let more : 1 + count_in constraints chosen rows class ≡ suc (count_in constraints chosen rows class) = omega arith in
          rw more (mul-more (gain class) (count_in constraints chosen rows class))
      by_class false =
          let same : 0 + count_in constraints chosen rows class ≡ count_in constraints chosen rows class = omega arith in
          rw same (sym (+ℤ_idl (gain_by_count gain rows class)))

  -- what the classes gain, each by its count, is what the rows gain
  pub gains_of_rows : (gain : Class → ℤ) (rows : List Row) → AreInClasses constraints chosen classes rows →
      int_sum (map (gain_by_count gain rows) classes) ≡ int_sum (map (λ (row : Row). gain (class_of constraints chosen row)) rows)
  gains_of_rows gain [] inside = int_sum-none (gain_by_count gain []) classes (λ i d within. *ℤ-zero (gain (slice_index_or classes i d)))
  gains_of_rows gain (row ∷ rows) inside =
      let class = class_of constraints chosen row in
      let listed = listed-from_contained class classes (All-head (λ (r : Row). Contains classes (class_of constraints chosen r)) row rows inside) in
      let later = gains_of_rows gain rows (All-tail (λ (r : Row). Contains classes (class_of constraints chosen r)) row rows inside) in
      int_sum-same (gain_by_count gain (row ∷ rows)) (λ (c : Class). gain_if gain class c +ℤ gain_by_count gain rows c) classes (one_more_row gain row rows)
      ∙ int_sum-add (gain_if gain class) (gain_by_count gain rows) classes
      ∙ ap₂ (λ a b. a +ℤ b) (sum_of_listed gain class classes differ listed) later
