-- The lists of the program of cells, by place.
use Rattle.std.proofs.Common.{◌≡◌, ℕ, ◌<◌, ℤ, false, List, [], length, get_or, arith}
use Rattle.std.proofs.lemmas.List.{length-map, get_or-map}
use Rattle.pc_model.specs.declared.constraint.When.TheVariants.{Outside}
use Rattle.pc_model.specs.declared.constraint.Constraint.{Constraint}
use Rattle.pc_model.specs.Cells.{Class}
use Rattle.pc_program_bound.specs.declared.program.Program.{Program}
use Rattle.pc_program_bound.specs.Sums.{nat_at}
use Rattle.pc_program_bound.specs.Allocation.{cells_of, constraints_of}
use Rattle.pc_program_bound.specs.CellPrograms.{cap_of, program_with}

-- stand-ins past the end of a list
abbrev pub no_class : Class
no_class = record { mask = 0; chosen = false }

abbrev pub no_constraint : Constraint
no_constraint = record { name = []; when = Outside; values = record { sides = [] }; least = 0; most = 0 }

module _ (constraints : List Constraint) (classes : List Class) (gains : List ℤ) where
  abbrev program : Program
  program = program_with constraints classes gains

  abbrev class_at : ℕ → Class
  class_at place = get_or classes place no_class

  abbrev constraint_at : ℕ → Constraint
  constraint_at place = get_or constraints place no_constraint

  pub cell_inside : (i : ℕ) → i < cells_of program → i < length classes
  cell_inside i inside = omega (arith, length-map classes (λ (class : Class). class.mask))

  pub constraint_inside : (j : ℕ) → j < constraints_of program → j < length constraints
  constraint_inside j inside = omega (arith, length-map constraints (λ (c : Constraint). c.least))

  pub mask_is : (i : ℕ) → i < length classes → nat_at program.masks i ≡ (class_at i).mask
  mask_is i inside = get_or-map (λ (class : Class). class.mask) classes i no_class 0 inside

  pub floor_is : (i : ℕ) → i < length classes → nat_at program.floor i ≡ 0
  floor_is i inside = get_or-map (λ (class : Class). 0) classes i no_class 0 inside

  pub cap_is : (i : ℕ) → i < length classes → nat_at program.cap i ≡ cap_of constraints (class_at i)
  cap_is i inside = get_or-map (cap_of constraints) classes i no_class 0 inside

  pub least_is : (j : ℕ) → j < length constraints → nat_at program.least j ≡ (constraint_at j).least
  least_is j inside = get_or-map (λ (c : Constraint). c.least) constraints j no_constraint 0 inside

  pub most_is : (j : ℕ) → j < length constraints → nat_at program.most j ≡ (constraint_at j).most
  most_is j inside = get_or-map (λ (c : Constraint). c.most) constraints j no_constraint 0 inside
