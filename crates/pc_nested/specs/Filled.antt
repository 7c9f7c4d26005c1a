-- How a constraint is filled: the dearest cells first, up to the number of rows that is wanted.
use Rattle.std.specs.Prelude.{◌≡◌, ℕ, ◌<◌, ◌≤◌, ◌^◌, ℤ, pos, ◌+ℤ◌, ◌<ℤ◌, ◌≤ℤ◌, nat_abs, true, false, List, length, Option, MatchOption}
use Rattle.pc_program_bound.specs.declared.program.Program.{Program}
use Rattle.pc_program_bound.specs.Sums.{nat_at, int_at}
use Rattle.pc_program_bound.specs.Allocation.{cells_of, total}
use Rattle.pc_program.specs.Settled.{is_in}

-- each gain is small
abbrev pub AreSmall : Program → Type 0
AreSmall p = (i : ℕ) → i < cells_of p → nat_abs (int_at p.gain i) < 2 ^ 87

-- each count is at most that of the other list
abbrev pub AreBelow : Program → List ℕ → List ℕ → Type 0
AreBelow p counts highs = (i : ℕ) → i < cells_of p → nat_at counts i ≤ nat_at highs i

-- what a cell has at a price: all that it can where its rows are worth more, as few as it can where they are worth less
pub record IsChosen (gain : ℤ) (low high : ℕ) (price : ℤ) (count : ℕ) : Type 0 where
  pub above : low ≤ count
  pub below : count ≤ high
  pub full : price <ℤ gain → count ≡ high
  pub empty : gain <ℤ price → count ≡ low

-- a cell of the constraint below a place with room, and no other such cell is worth more
pub record IsDearest (p : Program) (k : ℕ) (counts highs : List ℕ) (to cell : ℕ) : Type 0 where
  pub there : cell < to
  pub member : is_in p cell k ≡ true
  pub room : nat_at counts cell < nat_at highs cell
  pub dearest : (i : ℕ) → i < to → is_in p i k ≡ true → nat_at counts i < nat_at highs i → int_at p.gain i ≤ℤ int_at p.gain cell

-- no cell of the constraint below a place has room
abbrev pub HasNoRoom : Program → ℕ → List ℕ → List ℕ → ℕ → Type 0
HasNoRoom p k counts highs to = (i : ℕ) → i < to → is_in p i k ≡ true → nat_at highs i ≤ nat_at counts i

abbrev pub IsDearestIfAny : Program → ℕ → List ℕ → List ℕ → ℕ → Option ℕ → Type 0
IsDearestIfAny p k counts highs to found = MatchOption found (HasNoRoom p k counts highs to) (IsDearest p k counts highs to)

-- a small price that no row of a cell with room is worth more than
pub record IsTopPrice (p : Program) (k : ℕ) (counts highs : List ℕ) (price : ℤ) : Type 0 where
  pub small : nat_abs price ≤ 2 ^ 87
  pub top : (i : ℕ) → i < cells_of p → is_in p i k ≡ true → nat_at counts i < nat_at highs i → int_at p.gain i ≤ℤ price

-- the constraint's cells have what the price chooses, which is so many rows less what is left
pub record IsFilling (p : Program) (k : ℕ) (lows highs counts : List ℕ) (price : ℤ) (left target : ℕ) : Type 0 where
  pub long : length counts ≡ length lows
  pub others : (i : ℕ) → i < cells_of p → is_in p i k ≡ false → nat_at counts i ≡ nat_at lows i
  pub chosen : (i : ℕ) → i < cells_of p → is_in p i k ≡ true → IsChosen (int_at p.gain i) (nat_at lows i) (nat_at highs i) price (nat_at counts i)
  pub total : (total p counts k +ℤ pos left) ≡ pos target
  pub small : nat_abs price ≤ 2 ^ 87

-- nothing is left
abbrev pub IsFilled : Program → ℕ → List ℕ → List ℕ → List ℕ → ℤ → ℕ → Type 0
IsFilled p k lows highs counts price target = IsFilling p k lows highs counts price 0 target
