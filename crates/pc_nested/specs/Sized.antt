-- Constraints in the order of the number of their cells.
use Rattle.std.specs.Prelude.{◌≡◌, ℕ, ◌<◌, ℤ, pos, ◌<ℤ◌, cond, List, length, All, ◌⊎◌}
use Rattle.pc_program_bound.specs.declared.program.Program.{Program}
use Rattle.pc_program_bound.specs.Sums.{sum_below, nat_at}
use Rattle.pc_program_bound.specs.Allocation.{cells_of, constraints_of}
use Rattle.pc_program.specs.Settled.{is_in}

-- how many cells a constraint has
abbrev pub one_in : Program → ℕ → ℕ → ℤ
one_in p k i = cond (is_in p i k) (pos 1) (pos 0)

abbrev pub size_of : Program → ℕ → ℤ
size_of p k = sum_below (cells_of p) (one_in p k)

-- fewer cells, or as many and an earlier place
abbrev pub IsEarlier : Program → ℕ → ℕ → ℕ → Type 0
IsEarlier p j size place = (size_of p j <ℤ pos size) ⊎ ((size_of p j ≡ pos size) × (j < place))

abbrev pub IsAmong : List ℕ → ℕ → Type 0
IsAmong places j = (k : ℕ) × (k < length places) × (nat_at places k ≡ j)

-- the places are those of the constraints before a size and a place
pub record ArePast (p : Program) (places : List ℕ) (size place : ℕ) : Type 0 where
  pub earlier : All (λ j. (j < constraints_of p) × IsEarlier p j size place) places
  pub whole : (j : ℕ) → j < constraints_of p → IsEarlier p j size place → IsAmong places j
