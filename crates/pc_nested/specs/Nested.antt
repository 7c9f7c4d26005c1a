-- Programs of which any two constraints are apart, or one is inside the other.
use Rattle.std.specs.Prelude.{◌≡◌, ℕ, ◌<◌, ◌≤◌, ◌^◌, nat_abs, true, ◌⊎◌}
use Rattle.pc_program_bound.specs.declared.program.Program.{Program}
use Rattle.pc_program_bound.specs.Sums.{int_at}
use Rattle.pc_program_bound.specs.Allocation.{cells_of, constraints_of}
use Rattle.pc_program.specs.Settled.{is_in}

-- no cell is in both constraints
abbrev pub AreApart : Program → ℕ → ℕ → Type 0
AreApart p j k = (i : ℕ) → i < cells_of p → is_in p i j ≡ true → is_in p i k ≡ true → ⊥

-- each cell of the first is in the second
abbrev pub IsInside : Program → ℕ → ℕ → Type 0
IsInside p j k = (i : ℕ) → i < cells_of p → is_in p i j ≡ true → is_in p i k ≡ true

abbrev pub AreNestedPair : Program → ℕ → ℕ → Type 0
AreNestedPair p j k = AreApart p j k ⊎ (IsInside p j k ⊎ IsInside p k j)

abbrev pub AreNestedPairs : Program → Type 0
AreNestedPairs p = (j k : ℕ) → j < constraints_of p → k < constraints_of p → AreNestedPair p j k

-- any two constraints are apart, or one is inside the other; the numbers are such that the multipliers fit
pub record IsNested (p : Program) : Type 0 where
  pub pairs : AreNestedPairs p
  pub small : (i : ℕ) → i < cells_of p → nat_abs (int_at p.gain i) < 2 ^ 87
  pub few : cells_of p ≤ 40
