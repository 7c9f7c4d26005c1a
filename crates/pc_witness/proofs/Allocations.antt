-- Counts of a cells' program and one row of each cell: what the rows of their runs are.
use Rattle.std.proofs.Common.{◌≡◌, ℕ, zero, suc, ◌+◌, ◌<◌, cond, Bool, true, false, List, [], ◌∷◌, length, get_or, map, All, refl, sym, ap, ◌∙◌, arith}
use Rattle.std.specs.Prelude.{ℤ, pos}
use Rattle.std.specs.List.{AllZip}
use Rattle.std.proofs.lemmas.Int.{ints}
use Rattle.std.proofs.lemmas.List.{length-map, get_or-map}
use Rattle.std.proofs.lemmas.List.Sums.{sum_by-cons}
use Rattle.pc_model.specs.declared.schema.Schema.{Schema}
use Rattle.pc_model.specs.declared.row.Row.{Row}
use Rattle.pc_model.specs.declared.row.Run.{Run}
use Rattle.pc_model.specs.declared.area.Area.{Area}
use Rattle.pc_model.specs.declared.constraint.Constraint.{Constraint}
use Rattle.pc_model.specs.Membership.{in_domain, has, is_under}
use Rattle.pc_model.specs.Places.{has_bit}
use Rattle.pc_model.specs.Possible.{Meets, IsPossible, is_covered, count_of}
use Rattle.pc_model.specs.Runs.{rows_of, runs_from, AreRuns}
use Rattle.pc_model.specs.Cells.{Class, IsRowOf}
use Rattle.pc_cells_laws.proofs.Masks.{mask_of-bit}
use Rattle.pc_program_bound.specs.Sums.{sum_below, nat_at}
use Rattle.pc_program_bound.specs.Allocation.{IsAllocation, total}
use Rattle.pc_program_bound.specs.CellPrograms.{program_of}
use Rattle.pc_witness.specs.Checks.{rows_under}
use Rattle.pc_witness.proofs.Checks.{All-rows_of, count-rows_of}
use Rattle.pc_program_bound.proofs.SumBelow.{sum_below-front}
use Rattle.pc_witness.proofs.Zipped.{AllZip-weaker, All-from_zip}
use Rattle.pc_witness.proofs.RunsFrom.{runs_from-stand, All-runs_from}

-- ---- the rows of a constraint

-- the rows of the first cell are all under the constraint, or none is
rows_under-cons : (constraints : List Constraint) (c : Constraint) (row : Row) (rows : List Row) (n : ℕ) (counts : List ℕ) →
    rows_under constraints c (runs_from (row ∷ rows) (n ∷ counts)) ≡ cond (is_under constraints c row) n 0 + rows_under constraints c (runs_from rows counts)
rows_under-cons constraints c row rows zero counts = by_bit (is_under constraints c row)
  where
    by_bit : (bit : Bool) → rows_under constraints c (runs_from rows counts) ≡ cond bit 0 0 + rows_under constraints c (runs_from rows counts)
    by_bit true = omega arith
    by_bit false = omega arith
rows_under-cons constraints c row rows (suc n) counts = sum_by-cons (λ (run : Run). cond (is_under constraints c run.row) run.times 0) (record { times = suc n; row = row }) (runs_from rows counts)

pos_of-cond : (bit : Bool) (n : ℕ) → cond bit (pos n) (pos 0) ≡ pos (cond bit n 0)
pos_of-cond true n = refl
pos_of-cond false n = refl

-- the row is under the constraint if and only if the class has its bit
abbrev IsBitOf : List Constraint → ℕ → Constraint → Class → Row → Type 0
IsBitOf constraints place c class row = has_bit class.mask place ≡ is_under constraints c row

total_of-cells : (constraints : List Constraint) (place : ℕ) (c : Constraint) (classes : List Class) (picks : List Row) (counts : List ℕ) → AllZip (IsBitOf constraints place c) classes picks → length counts ≡ length classes →
    sum_below (length classes) (λ i. cond (has_bit (nat_at (map (λ (class : Class). class.mask) classes) i) place) (pos (nat_at counts i)) (pos 0)) ≡ pos (rows_under constraints c (runs_from picks counts))
unfolding sum_below
total_of-cells constraints place c [] [] counts paired sized = refl
total_of-cells constraints place c [] (row ∷ picks) counts paired sized = absurd paired
total_of-cells constraints place c (class ∷ classes) [] counts paired sized = absurd paired
total_of-cells constraints place c (class ∷ classes) (row ∷ picks) [] paired sized = absurd (omega arith)
total_of-cells constraints place c (class ∷ classes) (row ∷ picks) (n ∷ counts) paired sized =
    let later = total_of-cells constraints place c classes picks counts paired.1 (omega arith) in
    let first : cond (has_bit class.mask place) (pos n) (pos 0) ≡ pos (cond (is_under constraints c row) n 0) = ap (λ bit. cond bit (pos n) (pos 0)) paired.0 ∙ pos_of-cond (is_under constraints c row) n in
    sum_below-front (length classes) (λ i. cond (has_bit (nat_at (map (λ (class : Class). class.mask) (class ∷ classes)) i) place) (pos (nat_at (n ∷ counts) i)) (pos 0))
    ∙ omega (arith, ints, first, later, rows_under-cons constraints c row picks n counts)

-- ---- the whole list

module _ (schema : Schema) (constraints : List Constraint) (chosen : Area) (classes : List Class) (picks : List Row) (each : AllZip (IsRowOf schema constraints chosen) classes picks) where
  abbrev IsOf : Class → Row → Type 0
  IsOf class row = IsRowOf schema constraints chosen class row

  -- what holds of each row of a cell holds of the rows of the runs
  each_row : (P : Row → Type 0) → ((class : Class) (row : Row) → IsOf class row → P row) → (counts : List ℕ) → All P (rows_of (runs_from picks counts))
  each_row P so counts = All-rows_of P (runs_from picks counts) (All-runs_from P picks counts (All-from_zip IsOf P so classes picks each))

  bits_paired : (place : ℕ) (d : Constraint) → place < length constraints → AllZip (IsBitOf constraints place (get_or constraints place d)) classes picks
  bits_paired place d within =
      AllZip-weaker IsOf (IsBitOf constraints place (get_or constraints place d))
      (λ class row is. ap (λ (one : Class). has_bit one.mask place) (sym is.of_class) ∙ mask_of-bit constraints row place d within) classes picks each

  total_of-rows : (gain : Class → ℤ) (counts : List ℕ) (place : ℕ) (d : Constraint) → place < length constraints → length counts ≡ length classes →
      total (program_of constraints classes gain) counts place ≡ pos (count_of constraints (get_or constraints place d) (rows_of (runs_from picks counts)))
  total_of-rows gain counts place d within sized =
      let c = get_or constraints place d in
      rw (length-map classes (λ (class : Class). class.mask))
      (total_of-cells constraints place c classes picks counts (bits_paired place d within) sized ∙ ap pos (sym (count-rows_of constraints c (runs_from picks counts))))

  module _ (gain : Class → ℤ) (floors caps counts : List ℕ) (allocated : IsAllocation (program_of constraints classes gain) floors caps counts) where
    sized : length counts ≡ length classes
    sized = allocated.sized ∙ length-map classes (λ (class : Class). class.mask)

    meets_each : (place : ℕ) (d : Constraint) → place < length constraints → Meets constraints (get_or constraints place d) (rows_of (runs_from picks counts))
    meets_each place d within =
        let c = get_or constraints place d in
        let met = allocated.met place (rw (length-map constraints (λ (c : Constraint). c.least)) within) in
        let count = total_of-rows gain counts place d within sized in
        let least = get_or-map (λ (c : Constraint). c.least) constraints place d 0 within in
        let most = get_or-map (λ (c : Constraint). c.most) constraints place d 0 within in
        record {
          in_values = each_row (λ row. is_under constraints c row ≡ true → has c.values row ≡ true) (λ class row is. is.lawful.kept place d within) counts;
          enough = omega (arith, ints, count, least, met.0);
          not_more = omega (arith, ints, count, most, met.1);
        }

    pub allocation-possible : AreRuns (runs_from picks counts) × IsPossible schema constraints (rows_of (runs_from picks counts))
    allocation-possible = (
      runs_from-stand picks counts,
      record {
        allowed = each_row (λ row. in_domain schema row ≡ true) (λ class row is. is.allowed) counts;
        covered = each_row (λ row. is_covered constraints row ≡ true) (λ class row is. is.lawful.covered) counts;
        meets = meets_each;
      },
    )
