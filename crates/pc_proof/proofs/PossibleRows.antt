-- The rows of a possible list: each can be lost, so it is in a cell of a settled tree, and their counts are an allocation.
use Rattle.std.proofs.Common.{◌≡◌, ℤ, List, map, get_or, All, Contains, refl}
use Rattle.pc_model.specs.declared.schema.Schema.{Schema}
use Rattle.pc_model.specs.declared.row.Row.{Row}
use Rattle.pc_model.specs.declared.area.Area.{Area}
use Rattle.pc_model.specs.declared.constraint.Constraint.{Constraint}
use Rattle.pc_model.specs.declared.tree.CutNode.{CutNode}
use Rattle.pc_model.specs.Aggregate.{int_sum}
use Rattle.pc_model.specs.WellFormed.{IsWellFormed}
use Rattle.pc_model.specs.Possible.{IsPossible}
use Rattle.pc_model.specs.Cells.{Class, class_of, IsLawful, IsSettledTree, classes_of, leaves_in}
use Rattle.pc_cells_laws.proofs.Cells.{classes_of-differ}
use Rattle.pc_cells_laws.proofs.SettledTrees.{classes_of_tree}
use Rattle.pc_program_bound.specs.Allocation.{worth, IsAllocation}
use Rattle.pc_program_bound.specs.CellPrograms.{program_of, counts_of}
use Rattle.pc_proof.proofs.Allocations.{worth_of_rows, allocation_of_rows}

-- each row of a possible list can be lost
pub lawful_from_possible : (schema : Schema) (constraints : List Constraint) (rows : List Row) → IsPossible schema constraints rows → All (IsLawful constraints) rows
lawful_from_possible schema constraints rows possible place row inside = record {
  covered = possible.covered place row inside;
  kept = λ j c within. (possible.meets j c within).in_values place row inside;
}

module _ (schema : Schema) (constraints : List Constraint) (chosen : Area) (nodes : List CutNode) where
  -- and so is in a cell
  pub rows_in_cells : (rows : List Row) → IsWellFormed schema → IsSettledTree schema constraints chosen nodes → IsPossible schema constraints rows →
      All (λ (row : Row). Contains (classes_of (leaves_in schema nodes)) (class_of constraints chosen row)) rows
  rows_in_cells rows formed tree possible place d inside =
      let row = get_or rows place d in
      (classes_of_tree schema constraints chosen nodes formed tree (class_of constraints chosen row)).1
      (row, record { allowed = possible.allowed place d inside; lawful = lawful_from_possible schema constraints rows possible place d inside; of_class = refl })

  module _ (gain : Class → ℤ) (rows : List Row) (formed : IsWellFormed schema) (tree : IsSettledTree schema constraints chosen nodes)
      (possible : IsPossible schema constraints rows) where
    pub rows_are_allocation :
        IsAllocation (program_of constraints (classes_of (leaves_in schema nodes)) gain) (program_of constraints (classes_of (leaves_in schema nodes)) gain).floor
        (program_of constraints (classes_of (leaves_in schema nodes)) gain).cap (counts_of constraints chosen (classes_of (leaves_in schema nodes)) rows)
    rows_are_allocation =
        allocation_of_rows constraints chosen (classes_of (leaves_in schema nodes)) gain rows (classes_of-differ (leaves_in schema nodes))
        (rows_in_cells rows formed tree possible) possible.covered possible.meets

    pub rows_are_worth :
        worth (program_of constraints (classes_of (leaves_in schema nodes)) gain) (counts_of constraints chosen (classes_of (leaves_in schema nodes)) rows) ≡
        int_sum (map (λ (row : Row). gain (class_of constraints chosen row)) rows)
    rows_are_worth = worth_of_rows constraints chosen (classes_of (leaves_in schema nodes)) gain rows (classes_of-differ (leaves_in schema nodes)) (rows_in_cells rows formed tree possible)
