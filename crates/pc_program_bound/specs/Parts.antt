-- The numbers of one part on the way to the bound, and the sums as far as some place.
use Rattle.std.specs.Prelude.{ℕ, ◌<◌, ℤ, pos, neg_ℤ, ◌*ℤ◌, ◌+ℤ◌, ◌≤ℤ◌, nat_abs, cond, List}
use Rattle.pc_program_bound.specs.declared.program.Program.{Program}
use Rattle.pc_model.specs.declared.tree.Mult.{Mult}
use Rattle.pc_model.specs.Places.{has_bit}
use Rattle.pc_program_bound.specs.Sums.{sum_below, int_at}
use Rattle.pc_program_bound.specs.Bound.{IsFit, AreFit, constraint_size, constraint_sizes, cell_size, IsFitCell}

-- the multiplier at a place, where the mask has that place
abbrev pub taken : ℕ → List ℤ → ℕ → ℤ
taken mask by j = cond (has_bit mask j) (int_at by j) (pos 0)

-- the most that a number can give, times so many
abbrev pub size_of : ℤ → ℕ → ℤ
size_of number count = pos (nat_abs number) *ℤ pos count

-- at most that far from 0
pub record IsAround (share size : ℤ) : Type 0 where
  pub low : neg_ℤ size ≤ℤ share
  pub high : share ≤ℤ size

-- the constraints' products below a place, and their running sums up to it, fit
pub record AreFitConstraints (p : Program) (mult : Mult) (n : ℕ) : Type 0 where
  pub each : (j : ℕ) → j < n → IsFit (constraint_size p mult j)
  pub sums : AreFit (constraint_sizes p mult) n

-- the cells' numbers below a place, and the running sums of their products up to it after a first number, fit
pub record AreFitCells (p : Program) (mult : Mult) (first : ℤ) (n : ℕ) : Type 0 where
  pub each : (i : ℕ) → i < n → IsFitCell p mult i
  pub sums : AreFit (λ k. first +ℤ sum_below k (cell_size p mult)) n
