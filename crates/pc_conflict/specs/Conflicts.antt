-- What is answered of constraints that may contradict each other.
use Rattle.std.specs.Prelude.{ℕ, ℤ, neg_ℤ, ◌<ℤ◌, ⊤, List}
use Rattle.pc_model.specs.declared.schema.Schema.{Schema}
use Rattle.pc_model.specs.declared.constraint.Constraint.{Constraint}
use Rattle.pc_model.specs.declared.tree.CutNode.{CutNode}
use Rattle.pc_model.specs.Regions.{whole_area}
use Rattle.pc_model.specs.Cells.{Class, IsSettledTree, classes_of, leaves_in}
use Rattle.pc_program_bound.specs.declared.program.Program.{Program}
use Rattle.pc_program_bound.specs.CellPrograms.{program_of}
use Rattle.pc_proof.specs.Table.{one, minus_one}
use Rattle.pc_branch_licences.specs.Wanted.{any, LeavesOpen}
use Rattle.pc_conflict.specs.declared.conflict.Conflict.{Conflict}
use Rattle.pc_conflict.specs.declared.conflict.Conflict.TheVariants.{Possible, Core, Undecided}
use Rattle.pc_conflict.specs.Core.{IsCore}
use Rattle.pc_conflict.specs.Deletion.{at_places, IsNextTest, StandFor}

-- ---- tests that are left open

-- the program that gives each row of the cells of a tree the same
abbrev pub program_over : Schema → List Constraint → List CutNode → (Class → ℤ) → Program
program_over schema constraints nodes gain = program_of constraints (classes_of (leaves_in schema nodes)) gain

-- over the cells of one settled tree the budget is spent both at the most rows and at the fewest, with no list found, and their
-- bounds do not cross
pub record IsLeftOpen (schema : Schema) (constraints : List Constraint) (budget : ℕ) : Type 0 where
  pub nodes : List CutNode
  pub tree : IsSettledTree schema constraints (whole_area schema) nodes
  pub most : ℤ
  pub fewest : ℤ
  pub by_most : LeavesOpen (program_over schema constraints nodes one) budget most any
  pub by_fewest : LeavesOpen (program_over schema constraints nodes minus_one) budget fewest any
  pub meet : most <ℤ neg_ℤ fewest → ⊥

-- ---- answers

-- the test is the next one after those that are decided, and the budget does not decide it
pub record IsUndecidedAt (schema : Schema) (constraints : List Constraint) (budget : ℕ) (tested : List ℕ) : Type 0 where
  pub next : IsNextTest schema constraints tested
  pub left : IsLeftOpen schema (at_places constraints tested) budget

abbrev pub IsConflict : Schema → List Constraint → ℕ → Conflict → Type 0
IsConflict schema constraints budget (Possible runs) = StandFor schema constraints runs
IsConflict schema constraints budget (Core members without) = IsCore schema constraints members without
IsConflict schema constraints budget (Undecided tested) = IsUndecidedAt schema constraints budget tested

abbrev pub IsDecided : Conflict → Type 0
IsDecided (Possible runs) = ⊤
IsDecided (Core members without) = ⊤
IsDecided (Undecided tested) = ⊥
