-- Programs whose constraints share no cell, and what it is that a constraint is settled.
use Rattle.std.specs.Prelude.{◌≡◌, ℕ, ◌<◌, ◌≤◌, ◌^◌, ℤ, pos, ◌*ℤ◌, ◌≤ℤ◌, ◌<ℤ◌, nat_abs, int_lt, Bool, true, false, cond, List, length}
use Rattle.pc_model.specs.Places.{has_bit}
use Rattle.pc_program_bound.specs.declared.program.Program.{Program}
use Rattle.pc_program_bound.specs.Sums.{nat_at, int_at}
use Rattle.pc_program_bound.specs.Allocation.{cells_of, constraints_of, total}
use Rattle.pc_program.specs.Sharing.{IsReached}

-- whether a cell is in a constraint
abbrev pub is_in : Program → ℕ → ℕ → Bool
is_in p i k = has_bit (nat_at p.masks i) k

-- each cell is in one constraint, and each constraint has at most two cells
pub record HasOneBits (p : Program) : Type 0 where
  pub bit_of : (i : ℕ) → i < cells_of p → (k : ℕ) × (k < constraints_of p) × (is_in p i k ≡ true)
  pub only : (i j k : ℕ) → i < cells_of p → is_in p i j ≡ true → is_in p i k ≡ true → j ≡ k
  pub two : (h i j k : ℕ) → h < i → i < j → j < cells_of p → is_in p h k ≡ true → is_in p i k ≡ true → is_in p j k ≡ true → ⊥
  pub floors : (i : ℕ) → i < cells_of p → nat_at p.floor i ≡ 0
  pub small : (i : ℕ) → i < cells_of p → nat_abs (int_at p.gain i) < 2 ^ 87
  pub few : cells_of p ≤ 40

-- the constraint's cells add as much as they can
pub record IsDone (p : Program) (counts : List ℕ) (by : ℤ) (k : ℕ) : Type 0 where
  pub inside : (i : ℕ) → i < cells_of p → is_in p i k ≡ true → nat_at counts i ≤ nat_at p.cap i
  pub reached : (i : ℕ) → i < cells_of p → is_in p i k ≡ true → IsReached (int_at p.gain i) (nat_at p.cap i) (nat_at counts i) by
  pub enough : pos (nat_at p.least k) ≤ℤ total p counts k
  pub not_more : total p counts k ≤ℤ pos (nat_at p.most k)
  pub total_reached : by *ℤ total p counts k ≡ by *ℤ pos (cond (int_lt (pos 0) by) (nat_at p.most k) (nat_at p.least k))
  pub small : nat_abs by < 2 ^ 87

-- even full, the constraint's cells have too few
abbrev pub IsShort : Program → ℕ → Type 0
IsShort p k = total p p.cap k <ℤ pos (nat_at p.least k)

-- the counts of other constraints' cells stay
pub record IsKept (p : Program) (k : ℕ) (before after : List ℕ) : Type 0 where
  pub long : length after ≡ length before
  pub others : (i : ℕ) → i < cells_of p → is_in p i k ≡ false → nat_at after i ≡ nat_at before i

-- no cell from a place up to another is in the constraint
abbrev pub HasNoneIn : Program → ℕ → ℕ → ℕ → Type 0
HasNoneIn p k from to = (j : ℕ) → from ≤ j → j < to → is_in p j k ≡ false

-- the first cell of the constraint there
pub record IsFirstIn (p : Program) (k from to i : ℕ) : Type 0 where
  pub past : from ≤ i
  pub there : i < to
  pub member : is_in p i k ≡ true
  pub before : (j : ℕ) → from ≤ j → j < i → is_in p j k ≡ false

-- the same from a place on
abbrev pub HasNoneFrom : Program → ℕ → ℕ → Type 0
HasNoneFrom p k from = HasNoneIn p k from (cells_of p)

abbrev pub IsFirstFrom : Program → ℕ → ℕ → ℕ → Type 0
IsFirstFrom p k from i = IsFirstIn p k from (cells_of p) i

-- the constraint is settled by its multiplier, and what the others have stays
pub record IsSettled (p : Program) (before after : List ℕ) (by : ℤ) (k : ℕ) : Type 0 where
  pub done : IsDone p after by k
  pub kept : IsKept p k before after

-- the constraints below a place are settled, each by its multiplier
pub record AreSettled (p : Program) (counts : List ℕ) (multipliers : List ℤ) (n : ℕ) : Type 0 where
  pub sized : length counts ≡ cells_of p
  pub long : length multipliers ≡ n
  pub done : (k : ℕ) → k < n → IsDone p counts (int_at multipliers k) k
