-- Counts of a cells' program and one row of each cell: what the rows of their runs gain.
use Rattle.std.proofs.Common.{◌≡◌, ℕ, zero, suc, List, [], ◌∷◌, ◌++◌, length, map, replicate, refl, sym, ap, ◌∙◌, arith}
use Rattle.std.specs.Prelude.{ℤ, pos, ◌+ℤ◌, ◌*ℤ◌}
use Rattle.std.specs.List.{AllZip}
use Rattle.std.proofs.lemmas.Int.{ints}
use Rattle.std.proofs.lemmas.List.{length-map}
use Rattle.pc_model.specs.declared.schema.Schema.{Schema}
use Rattle.pc_model.specs.declared.row.Row.{Row}
use Rattle.pc_model.specs.declared.area.Area.{Area}
use Rattle.pc_model.specs.declared.constraint.Constraint.{Constraint}
use Rattle.pc_model.specs.Aggregate.{int_sum}
use Rattle.pc_model.specs.Runs.{rows_of, runs_from}
use Rattle.pc_model.specs.Cells.{Class, class_of, IsRowOf}
use Rattle.pc_program_bound.specs.Sums.{sum_below, nat_at, int_at}
use Rattle.pc_program_bound.specs.Allocation.{cells_of, worth}
use Rattle.pc_program_bound.specs.CellPrograms.{program_of}
use Rattle.pc_program_bound.proofs.Ring.{mul-more}
use Rattle.pc_program_bound.proofs.SumBelow.{sum_below-front}
use Rattle.pc_witness.proofs.Zipped.{AllZip-weaker}

module _ (value : Row → ℤ) where
  abbrev value_of_rows : List Row → ℤ
  value_of_rows rows = int_sum (map value rows)

  -- a row that stands n times
  value-replicate : (n : ℕ) (row : Row) (rows : List Row) → value_of_rows (replicate n row ++ rows) ≡ value row *ℤ pos n +ℤ value_of_rows rows
  value-replicate zero row rows = omega (arith, ints)
  value-replicate (suc n) row rows = let later = value-replicate n row rows in omega (arith, ints, later, mul-more (value row) n)

  -- the rows of the first cell, and those of the others
  value-cons : (row : Row) (rows : List Row) (n : ℕ) (counts : List ℕ) →
      value_of_rows (rows_of (runs_from (row ∷ rows) (n ∷ counts))) ≡ value row *ℤ pos n +ℤ value_of_rows (rows_of (runs_from rows counts))
  unfolding rows_of
  value-cons row rows zero counts = omega (arith, ints)
  value-cons row rows (suc n) counts = value-replicate (suc n) row (rows_of (runs_from rows counts))

  worth_of-cells : (gain : Class → ℤ) (classes : List Class) (picks : List Row) (counts : List ℕ) → AllZip (λ class row. gain class ≡ value row) classes picks → length counts ≡ length classes →
      sum_below (length classes) (λ i. int_at (map gain classes) i *ℤ pos (nat_at counts i)) ≡ value_of_rows (rows_of (runs_from picks counts))
  unfolding sum_below rows_of
  worth_of-cells gain [] [] counts paired sized = refl
  worth_of-cells gain [] (row ∷ picks) counts paired sized = absurd paired
  worth_of-cells gain (class ∷ classes) [] counts paired sized = absurd paired
  worth_of-cells gain (class ∷ classes) (row ∷ picks) [] paired sized = absurd (omega arith)
  worth_of-cells gain (class ∷ classes) (row ∷ picks) (n ∷ counts) paired sized =
      sum_below-front (length classes) (λ i. int_at (map gain (class ∷ classes)) i *ℤ pos (nat_at (n ∷ counts) i))
      ∙ ap (λ later. gain class *ℤ pos n +ℤ later) (worth_of-cells gain classes picks counts paired.1 (omega arith))
      ∙ ap (λ one. one *ℤ pos n +ℤ value_of_rows (rows_of (runs_from picks counts))) paired.0
      ∙ sym (value-cons row picks n counts)

pub worth_of-rows : (schema : Schema) (constraints : List Constraint) (chosen : Area) (classes : List Class) (gain : Class → ℤ) (picks : List Row) (counts : List ℕ) →
    AllZip (IsRowOf schema constraints chosen) classes picks → length counts ≡ cells_of (program_of constraints classes gain) →
    worth (program_of constraints classes gain) counts ≡ int_sum (map (λ row. gain (class_of constraints chosen row)) (rows_of (runs_from picks counts)))
worth_of-rows schema constraints chosen classes gain picks counts each sized =
    let value : Row → ℤ = λ row. gain (class_of constraints chosen row) in
    let paired = AllZip-weaker (IsRowOf schema constraints chosen) (λ class row. gain class ≡ value row) (λ class row is. sym (ap gain is.of_class)) classes picks each in
    rw (length-map classes (λ (class : Class). class.mask))
    (worth_of-cells value gain classes picks counts paired (sized ∙ length-map classes (λ (class : Class). class.mask)))
