-- The conditions of a program whose constraints share no cell, one by one.
use Rattle.std.specs.Prelude.{◌≡◌, ℕ, ◌<◌, ◌≤◌, true, false}
use Rattle.pc_model.specs.Places.{has_bit}
use Rattle.pc_program_bound.specs.declared.program.Program.{Program}
use Rattle.pc_program_bound.specs.Allocation.{cells_of}
use Rattle.pc_program.specs.Settled.{is_in}

-- the first bit of a mask from a place on
pub record IsFirstBit (mask from k : ℕ) : Type 0 where
  pub past : from ≤ k
  pub set : has_bit mask k ≡ true
  pub before : (j : ℕ) → from ≤ j → j < k → has_bit mask j ≡ false

-- no bit from that place on is set
abbrev pub HasNoBitFrom : ℕ → ℕ → Type 0
HasNoBitFrom mask from = (j : ℕ) → from ≤ j → has_bit mask j ≡ false

-- one bit is set, and it is below a place
pub record HasOneBit (mask n : ℕ) : Type 0 where
  pub bit_of : (k : ℕ) × (k < n) × (has_bit mask k ≡ true)
  pub only : (j k : ℕ) → has_bit mask j ≡ true → has_bit mask k ≡ true → j ≡ k

-- no three cells are in the constraint
abbrev pub HasAtMostTwo : Program → ℕ → Type 0
HasAtMostTwo p k = (h i j : ℕ) → h < i → i < j → j < cells_of p → is_in p h k ≡ true → is_in p i k ≡ true → is_in p j k ≡ true → ⊥
