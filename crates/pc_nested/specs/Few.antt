-- Cells of two sides, of which those of one side differ.
use Rattle.std.specs.Prelude.{◌≡◌, ℕ, ◌<◌, Bool, true}
use Rattle.pc_program_bound.specs.declared.program.Program.{Program}
use Rattle.pc_program_bound.specs.Allocation.{cells_of, constraints_of}
use Rattle.pc_program.specs.Settled.{is_in}

-- each cell is in a constraint
abbrev pub AreCovered : Program → Type 0
AreCovered p = (i : ℕ) → i < cells_of p → (k : ℕ) × (k < constraints_of p) × (is_in p i k ≡ true)

-- two cells of one side are not in the same constraints
abbrev pub DifferOnSides : Program → (ℕ → Bool) → Type 0
DifferOnSides p side = (h i : ℕ) → h < i → i < cells_of p → side h ≡ side i
    → ((k : ℕ) → k < constraints_of p → is_in p h k ≡ is_in p i k) → ⊥
