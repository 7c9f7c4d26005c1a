-- The bound that multipliers prove, and the numbers that are formed on the way to it.
use Rattle.std.specs.Prelude.{◌≡◌, ℕ, ◌<◌, ◌≤◌, ◌<ℤ◌, ◌≤ℤ◌, length, ℤ, pos, ◌+ℤ◌, ◌-ℤ◌, ◌*ℤ◌, nat_abs, int_lt, cond, List, replicate}
use Rattle.std.specs.Int.{int_max, int_div_euclid}
use Rattle.pc_num.specs.Signs.{Fits}
use Rattle.pc_program_bound.specs.declared.program.Program.{Program}
use Rattle.pc_model.specs.declared.tree.Mult.{Mult}
use Rattle.pc_model.specs.Places.{has_bit}
use Rattle.pc_program_bound.specs.Sums.{sum_below, nat_at, int_at}
use Rattle.pc_program_bound.specs.Allocation.{cells_of, constraints_of}

-- the multiplier of constraint j, where the cell is in it
abbrev pub part_of : Program → Mult → ℕ → ℕ → ℤ
part_of p mult i j = cond (has_bit (nat_at p.masks i) j) (int_at mult.by j) (pos 0)

-- what is left of a cell's gain once its constraints took their multipliers
abbrev pub rest_of : Program → Mult → ℕ → ℤ
rest_of p mult i = mult.den *ℤ int_at p.gain i -ℤ sum_below (constraints_of p) (part_of p mult i)

-- the most that a constraint adds
abbrev pub constraint_share : Program → Mult → ℕ → ℤ
constraint_share p mult j =
    int_at mult.by j *ℤ pos (cond (int_lt (pos 0) (int_at mult.by j)) (nat_at p.most j) (nat_at p.least j))

-- the most that a cell adds
abbrev pub cell_share : Program → List ℕ → List ℕ → Mult → ℕ → ℤ
cell_share p floors caps mult i =
    int_max (rest_of p mult i *ℤ pos (nat_at floors i)) (rest_of p mult i *ℤ pos (nat_at caps i))

-- the bound before it is divided
abbrev pub raw_bound : Program → List ℕ → List ℕ → Mult → ℤ
raw_bound p floors caps mult =
    sum_below (constraints_of p) (constraint_share p mult) +ℤ sum_below (cells_of p) (cell_share p floors caps mult)

-- the bound, rounded down
abbrev pub bound_of : Program → List ℕ → List ℕ → Mult → ℤ
bound_of p floors caps mult = int_div_euclid (raw_bound p floors caps mult) mult.den

-- a number that fits
abbrev pub IsFit : ℤ → Type 0
IsFit z = Fits z

-- the numbers up to the place n fit
pub record AreFit (number : ℕ → ℤ) (n : ℕ) : Type 0 where
  pub each : (k : ℕ) → k ≤ n → IsFit (number k)

-- the products whose running sums have to fit
abbrev pub constraint_size : Program → Mult → ℕ → ℤ
constraint_size p mult j = pos (nat_abs (int_at mult.by j)) *ℤ pos (nat_at p.most j)

abbrev pub cell_size : Program → Mult → ℕ → ℤ
cell_size p mult i = pos (nat_abs (rest_of p mult i)) *ℤ pos (nat_at p.cap i)

-- the running sums of the multipliers of a cell, of the constraints' products, and of the cells' products after them
abbrev pub given_up_to : Program → Mult → ℕ → ℕ → ℤ
given_up_to p mult i k = sum_below k (part_of p mult i)

abbrev pub constraint_sizes : Program → Mult → ℕ → ℤ
constraint_sizes p mult k = sum_below k (constraint_size p mult)

abbrev pub cell_sizes : Program → Mult → ℕ → ℤ
cell_sizes p mult k = constraint_sizes p mult (constraints_of p) +ℤ sum_below k (cell_size p mult)

-- the numbers on the way to what is left of a cell's gain
pub record IsFitRest (p : Program) (mult : Mult) (i : ℕ) : Type 0 where
  pub scaled : IsFit (mult.den *ℤ int_at p.gain i)
  pub given : AreFit (given_up_to p mult i) (constraints_of p)
  pub rest : IsFit (rest_of p mult i)

-- the numbers of a cell
pub record IsFitCell (p : Program) (mult : Mult) (i : ℕ) : Type 0 where
  pub rest : IsFitRest p mult i
  pub size : IsFit (cell_size p mult i)

-- the width of the multipliers fits
pub record HasFitWidth (p : Program) (mult : Mult) : Type 0 where
  pub cells : (i : ℕ) → i < cells_of p → IsFitCell p mult i
  pub constraints : (j : ℕ) → j < constraints_of p → IsFit (constraint_size p mult j)
  pub constraint_sums : AreFit (constraint_sizes p mult) (constraints_of p)
  pub cell_sums : AreFit (cell_sizes p mult) (cells_of p)

-- the program whose gains are all 0
abbrev pub without_gain : Program → Program
without_gain p = record p { gain = replicate (cells_of p) (pos 0) }

-- multipliers that prove a bound
pub record IsMultiplier (p : Program) (mult : Mult) : Type 0 where
  pub sized : length mult.by ≡ constraints_of p
  pub positive : pos 1 ≤ℤ mult.den
  pub wide : HasFitWidth p mult

-- multipliers that show that the box has no allocation
pub record IsVoid (p : Program) (floors caps : List ℕ) (mult : Mult) : Type 0 where
  pub by : IsMultiplier (without_gain p) mult
  pub whole : mult.den ≡ pos 1
  pub below : raw_bound (without_gain p) floors caps mult <ℤ pos 0
