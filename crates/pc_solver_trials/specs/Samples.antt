-- Two programs whose relaxations the definitions compute.
use Rattle.std.specs.Prelude.{ℕ, ℤ, pos, List, [], ◌∷◌, Option, Some, None}
use Rattle.pc_model.specs.declared.tree.Mult.{Mult}
use Rattle.pc_program_bound.specs.declared.program.Program.{Program}
use Rattle.pc_program_bound.specs.Allocation.{cells_of}
use Rattle.pc_simplex_tableau.specs.declared.step.Step.{Step}
use Rattle.pc_simplex_tableau.specs.Numbers.{table}
use Rattle.pc_simplex_tableau.specs.Relaxation.{multipliers, Ending, at_vertex, at_void, at_wide, at_stall}
use Rattle.pc_simplex_tableau.specs.Point.{count_over, under_at}

-- the steps, the multipliers and each count of a vertex of so many cells
abbrev pub vertex_of : Program → List ℕ → List ℕ → Ending → Option (List Step × Mult × List (ℤ × ℤ))
vertex_of p floors caps end = elim end [
  | at_vertex steps t ↦ Some (steps, multipliers p t t.weight, table (cells_of p) (λ i. (count_over p floors caps t i, under_at t i)))
  | at_void steps mult ↦ None
  | at_wide steps ↦ None
  | at_stall steps ↦ None
]

-- three cells, each in two of three constraints that allow one row each
abbrev pub triangle : Program
triangle = record {
  masks = 3 ∷ 6 ∷ 5 ∷ [];
  least = 0 ∷ 0 ∷ 0 ∷ [];
  most = 1 ∷ 1 ∷ 1 ∷ [];
  floor = 0 ∷ 0 ∷ 0 ∷ [];
  cap = 1 ∷ 1 ∷ 1 ∷ [];
  gain = pos 1 ∷ pos 1 ∷ pos 1 ∷ [];
}

abbrev pub triangle_steps : List Step
triangle_steps =
    record { enters = 0; leaves = 0 } ∷ record { enters = 1; leaves = 4 } ∷ record { enters = 2; leaves = 3 } ∷ record { enters = 0; leaves = 5 } ∷ []

abbrev pub half : ℤ × ℤ
half = (pos 1, pos 2)

-- a cell that may have no row, in a constraint that wants one
abbrev pub wanting : Program
wanting = record {
  masks = 1 ∷ [];
  least = 1 ∷ [];
  most = 1 ∷ [];
  floor = 0 ∷ [];
  cap = 0 ∷ [];
  gain = pos 1 ∷ [];
}
