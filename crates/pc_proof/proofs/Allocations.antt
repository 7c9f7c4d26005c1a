-- The rows of a possible list, counted by cell, as an allocation of the cells' program; what the counts are worth.
use Rattle.std.proofs.Common.{◌≡◌, ℕ, ◌<◌, ◌≤◌, ℤ, pos, ◌≤ℤ◌, ◌*ℤ◌, Bool, true, false, cond, List, length, map, get_or, All, sym, ap, ap₂, ◌∙◌, arith}
use lib.IntN.{zero-*ℤ}
use Rattle.std.specs.List.{AllPass}
use Rattle.std.proofs.lemmas.Int.{ints}
use Rattle.std.proofs.lemmas.List.{length-map, get_or-map}
use Rattle.pc_model.specs.declared.row.Row.{Row}
use Rattle.pc_model.specs.declared.area.Area.{Area}
use Rattle.pc_model.specs.declared.constraint.Constraint.{Constraint}
use Rattle.pc_model.specs.Membership.{is_under}
use Rattle.pc_model.specs.Places.{has_bit}
use Rattle.pc_model.specs.Aggregate.{int_sum}
use Rattle.pc_model.specs.Possible.{is_covered, count_of, Meets}
use Rattle.pc_model.specs.Cells.{Class, class_of, mask_of}
use Rattle.pc_cells_laws.proofs.Masks.{mask_of-bit}
use Rattle.pc_program_bound.specs.declared.program.Program.{Program}
use Rattle.pc_program_bound.specs.Sums.{sum_below, nat_at, int_at}
use Rattle.pc_program_bound.specs.Allocation.{cells_of, constraints_of, count_for, total, worth, IsAllocation}
use Rattle.pc_program_bound.specs.CellPrograms.{program_of, count_in, counts_of}
use Rattle.pc_program_bound.proofs.SumBelow.{sum_below-same}
use Rattle.pc_program_bound.proofs.CellPlaces.{no_class, no_constraint, cell_inside, constraint_inside, mask_is, cap_is, floor_is, least_is, most_is}
use Rattle.pc_proof.proofs.RowSums.{int_sum-same, int_sum-count, sum_below-list}
use Rattle.pc_proof.proofs.RowCounts.{AreDifferent, AreInClasses, gains_of_rows}
use Rattle.pc_proof.proofs.RowCaps.{count_within_cap}

module _ (constraints : List Constraint) (chosen : Area) (classes : List Class) (gain : Class → ℤ) (rows : List Row) where
  abbrev program : Program
  program = program_of constraints classes gain

  abbrev counts : List ℕ
  counts = counts_of constraints chosen classes rows

  abbrev class_at : ℕ → Class
  class_at place = get_or classes place no_class

  abbrev count_at : Class → ℕ
  count_at class = count_in constraints chosen rows class

  -- ---- the lists of the program, by place

  count_is : (i : ℕ) → i < length classes → nat_at counts i ≡ count_at (class_at i)
  count_is i inside = get_or-map count_at classes i no_class 0 inside

  gain_is : (i : ℕ) → i < length classes → int_at program.gain i ≡ gain (class_at i)
  gain_is i inside = get_or-map gain classes i no_class (pos 0) inside

  -- ---- sums over the cells

  -- a sum over the places of the cells is a sum over the classes
  sum_of_cells : (part : ℕ → ℤ) (f : Class → ℤ) → ((i : ℕ) → i < length classes → part i ≡ f (class_at i)) → sum_below (cells_of program) part ≡ int_sum (map f classes)
  sum_of_cells part f same =
      ap (λ n. sum_below n part) (length-map classes (λ (class : Class). class.mask))
      ∙ sum_below-same (length classes) part (λ i. f (class_at i)) same ∙ sum_below-list f classes no_class

  -- a cell's part in a constraint is its count, if the constraint is in its mask
  abbrev has_constraint : ℕ → Class → Bool
  has_constraint j class = has_bit class.mask j

  one_if : (test : Bool) (n : ℕ) → cond test (pos n) (pos 0) ≡ cond test (pos 1) (pos 0) *ℤ pos n
  one_if true n = omega (arith, ints)
  one_if false n = sym (zero-*ℤ (pos n))

  part_is : (j i : ℕ) → i < length classes → count_for program counts j i ≡ cond (has_constraint j (class_at i)) (pos 1) (pos 0) *ℤ pos (count_at (class_at i))
  part_is j i inside =
      ap₂ (λ mask n. cond (has_bit mask j) (pos n) (pos 0)) (mask_is constraints classes (map gain classes) i inside) (count_is i inside) ∙ one_if (has_constraint j (class_at i)) (count_at (class_at i))

  module _ (differ : AreDifferent classes) (inside : AreInClasses constraints chosen classes rows) where
    -- the cells of a constraint have the rows under it
    pub total_is_count : (j : ℕ) (d : Constraint) → j < length constraints → total program counts j ≡ pos (count_of constraints (get_or constraints j d) rows)
    total_is_count j d within =
        sum_of_cells (count_for program counts j) (λ (class : Class). cond (has_constraint j class) (pos 1) (pos 0) *ℤ pos (count_at class)) (part_is j)
        ∙ gains_of_rows constraints chosen classes differ (λ (class : Class). cond (has_constraint j class) (pos 1) (pos 0)) rows inside
        ∙ int_sum-same (λ (row : Row). cond (has_bit (mask_of constraints row) j) (pos 1) (pos 0)) (λ (row : Row). cond (is_under constraints (get_or constraints j d) row) (pos 1) (pos 0)) rows
        (λ (row : Row). ap (λ test. cond test (pos 1) (pos 0)) (mask_of-bit constraints row j d within))
        ∙ int_sum-count (is_under constraints (get_or constraints j d)) rows

    -- the counts are worth what the rows gain
    pub worth_of_rows : worth program counts ≡ int_sum (map (λ (row : Row). gain (class_of constraints chosen row)) rows)
    worth_of_rows =
        sum_of_cells (λ i. int_at program.gain i *ℤ pos (nat_at counts i)) (λ (class : Class). gain class *ℤ pos (count_at class))
        (λ i within. ap₂ (λ x n. x *ℤ pos n) (gain_is i within) (count_is i within))
        ∙ gains_of_rows constraints chosen classes differ gain rows inside

    -- rows that meet the constraints are an allocation
    pub allocation_of_rows : AllPass (is_covered constraints) rows → All (λ (c : Constraint). Meets constraints c rows) constraints → IsAllocation program program.floor program.cap counts
    allocation_of_rows covered meets = record {
      sized = length-map classes count_at ∙ sym (length-map classes (λ (class : Class). class.mask));
      within = within_caps;
      met = met_at;
    }
      where
        within_caps : (i : ℕ) → i < cells_of program → (nat_at program.floor i ≤ nat_at counts i) × (nat_at counts i ≤ nat_at program.cap i)
        within_caps i below =
            let there = cell_inside constraints classes (map gain classes) i below in
            let few = count_within_cap constraints chosen (class_at i) rows covered meets in
            (omega (arith, floor_is constraints classes (map gain classes) i there), omega (arith, few, count_is i there, cap_is constraints classes (map gain classes) i there))

        met_at : (j : ℕ) → j < constraints_of program → (pos (nat_at program.least j) ≤ℤ total program counts j) × (total program counts j ≤ℤ pos (nat_at program.most j))
        met_at j below =
            let there = constraint_inside constraints classes (map gain classes) j below in
            let met = meets j no_constraint there in
            let count = total_is_count j no_constraint there in
            (omega (arith, ints, count, met.enough, least_is constraints classes (map gain classes) j there), omega (arith, ints, count, met.not_more, most_is constraints classes (map gain classes) j there))
