-- Which counts of rows a program allows, and what they are worth.
use Rattle.std.specs.Prelude.{◌≡◌, ℕ, ◌*◌, ◌<◌, ◌≤◌, ℤ, pos, ◌*ℤ◌, ◌≤ℤ◌, cond, List, length}
use Rattle.pc_program_bound.specs.declared.program.Program.{Program}
use Rattle.pc_model.specs.Places.{has_bit}
use Rattle.pc_program_bound.specs.Sums.{sum_below, nat_at, int_at}

abbrev pub cells_of : Program → ℕ
cells_of p = length p.masks

abbrev pub constraints_of : Program → ℕ
constraints_of p = length p.least

-- how many there are in a cell, where it is in the constraint
abbrev pub count_for : Program → List ℕ → ℕ → ℕ → ℤ
count_for p counts j i = cond (has_bit (nat_at p.masks i) j) (pos (nat_at counts i)) (pos 0)

-- how many there are in the cells of a constraint
abbrev pub total : Program → List ℕ → ℕ → ℤ
total p counts j = sum_below (cells_of p) (count_for p counts j)

-- the sum of gain times count
abbrev pub worth : Program → List ℕ → ℤ
worth p counts = sum_below (cells_of p) (λ i. int_at p.gain i *ℤ pos (nat_at counts i))

-- counts from floor to cap, which each constraint allows
pub record IsAllocation (p : Program) (floors caps counts : List ℕ) : Type 0 where
  pub sized : length counts ≡ cells_of p
  pub within : (i : ℕ) → i < cells_of p → (nat_at floors i ≤ nat_at counts i) × (nat_at counts i ≤ nat_at caps i)
  pub met : (j : ℕ) → j < constraints_of p → (pos (nat_at p.least j) ≤ℤ total p counts j) × (total p counts j ≤ℤ pos (nat_at p.most j))

-- the same of fractions, given as whole numbers over one denominator
pub record IsRelaxed (p : Program) (floors caps : List ℕ) (den : ℕ) (counts : List ℕ) : Type 0 where
  pub positive : 1 ≤ den
  pub sized : length counts ≡ cells_of p
  pub within : (i : ℕ) → i < cells_of p → (nat_at floors i * den ≤ nat_at counts i) × (nat_at counts i ≤ nat_at caps i * den)
  pub met : (j : ℕ) → j < constraints_of p →
      (pos (nat_at p.least j * den) ≤ℤ total p counts j) × (total p counts j ≤ℤ pos (nat_at p.most j * den))

-- the box lies inside the program's
pub record IsBox (p : Program) (floors caps : List ℕ) : Type 0 where
  pub sized_floors : length floors ≡ cells_of p
  pub sized_caps : length caps ≡ cells_of p
  pub inside : (i : ℕ) → i < cells_of p → (nat_at p.floor i ≤ nat_at floors i) × (nat_at floors i ≤ nat_at caps i) × (nat_at caps i ≤ nat_at p.cap i)

-- each list has its length
pub record IsProgram (p : Program) : Type 0 where
  pub mosts : length p.most ≡ constraints_of p
  pub floors : length p.floor ≡ cells_of p
  pub caps : length p.cap ≡ cells_of p
  pub gains : length p.gain ≡ cells_of p
  pub few : constraints_of p ≤ 20
  pub ordered : (j : ℕ) → j < constraints_of p → nat_at p.least j ≤ nat_at p.most j
  pub boxed : (i : ℕ) → i < cells_of p → nat_at p.floor i ≤ nat_at p.cap i
  pub small_most : (j : ℕ) → j < constraints_of p → nat_at p.most j ≤ 1_000_000_000
  pub small_cap : (i : ℕ) → i < cells_of p → nat_at p.cap i ≤ 1_000_000_000
