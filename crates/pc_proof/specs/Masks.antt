-- The program of cells by their masks alone.
use Rattle.std.specs.Prelude.{ℕ, false, ℤ, List, map}
use Rattle.pc_model.specs.declared.constraint.Constraint.{Constraint}
use Rattle.pc_program_bound.specs.declared.program.Program.{Program}
use Rattle.pc_program_bound.specs.CellPrograms.{cap_of}

-- the most rows of a cell with this mask
abbrev pub cap_for : List Constraint → ℕ → ℕ
cap_for constraints mask = cap_of constraints (record { mask = mask; chosen = false })

abbrev pub program_by : List Constraint → List ℕ → List ℤ → Program
program_by constraints masks gains = record {
  masks = masks;
  least = map (λ (c : Constraint). c.least) constraints;
  most = map (λ (c : Constraint). c.most) constraints;
  floor = map (λ mask. 0) masks;
  cap = map (cap_for constraints) masks;
  gain = gains;
}
