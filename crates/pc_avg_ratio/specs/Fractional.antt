-- The ratio of a sum to a number of rows, over all counts that a program allows.
use Rattle.std.specs.Prelude.{◌≡◌, ℕ, ◌<◌, ◌≤◌, ◌*◌, ◌^◌, ◌⊎◌, ℤ, pos, nat_abs, ◌+ℤ◌, ◌-ℤ◌, ◌*ℤ◌, ◌≤ℤ◌, ◌<ℤ◌, List, length}
use Rattle.pc_num.specs.Scaled.{greatest_size}
use Rattle.pc_model.specs.Aggregate.{Ratio}
use Rattle.pc_program_bound.specs.declared.program.Program.{Program}
use Rattle.pc_program_bound.specs.Sums.{sum_below, nat_at, int_at}
use Rattle.pc_program_bound.specs.Allocation.{IsProgram, IsAllocation, cells_of, worth}
use Rattle.pc_simplex_tableau.specs.Numbers.{table}
use Rattle.pc_avg_ratio.specs.declared.fractional.Fractional.{Fractional}

-- counts that are allowed
abbrev pub IsLawful : Fractional → List ℕ → Type 0
IsLawful f counts = IsAllocation f.rows f.rows.floor f.rows.cap counts

-- how many rows there are, and their sum
abbrev pub rows_with : Fractional → List ℕ → ℤ
rows_with f counts = pos f.count +ℤ worth f.rows counts

abbrev pub sum_with : Fractional → List ℕ → ℤ
sum_with f counts = f.sum +ℤ worth f.sums counts

abbrev pub ratio_with : Fractional → List ℕ → Ratio
ratio_with f counts = record { num = sum_with f counts; den = rows_with f counts }

-- how far the sum is above a ratio, times the denominator
abbrev pub excess : Fractional → Ratio → List ℕ → ℤ
excess f r counts = r.den *ℤ sum_with f counts -ℤ r.num *ℤ rows_with f counts

-- what a row of a cell adds to that, and the program with these gains
abbrev pub gain_over : Fractional → Ratio → ℕ → ℤ
gain_over f r i = r.den *ℤ int_at f.sums.gain i -ℤ r.num *ℤ int_at f.rows.gain i

abbrev pub gains_over : Fractional → Ratio → List ℤ
gains_over f r = table (cells_of f.rows) (gain_over f r)

abbrev pub program_at : Fractional → Ratio → Program
program_at f r = record f.rows { gain = gains_over f r }

-- what is there before adds to it
abbrev pub over_before : Fractional → Ratio → ℤ
over_before f r = r.den *ℤ f.sum -ℤ r.num *ℤ pos f.count

-- ---- sizes

-- the most rows, of which the allowed counts add the second
abbrev pub most_rows : ℕ
most_rows = 201_000_000

abbrev pub most_added : ℕ
most_added = 200_000_000

-- the greatest size of the sum of all
abbrev pub most_sum : ℕ
most_sum = most_rows * greatest_size

-- the caps of all cells together
abbrev pub most_room : ℕ
most_room = 2_097_152 * 10_000_000

-- a row of a cell counts once and adds its number, or adds nothing
abbrev pub AddsOne : Fractional → ℕ → Type 0
AddsOne f i = ((int_at f.rows.gain i ≡ pos 0) × (int_at f.sums.gain i ≡ pos 0)) ⊎ (int_at f.rows.gain i ≡ pos 1)

pub record IsFractional (f : Fractional) : Type 0 where
  pub program : IsProgram f.rows
  pub same : f.sums ≡ record f.rows { gain = f.sums.gain }
  pub sized : length f.sums.gain ≡ cells_of f.rows
  pub ones : (i : ℕ) → i < cells_of f.rows → AddsOne f i
  pub small : (i : ℕ) → i < cells_of f.rows → nat_abs (int_at f.sums.gain i) ≤ greatest_size
  pub room : sum_below (cells_of f.rows) (λ i. pos (nat_at f.rows.cap i)) ≤ℤ pos most_room
  pub few : f.count ≤ 1_000_000
  pub small_sum : nat_abs f.sum ≤ 1_000_000 * greatest_size
  pub few_rows : (counts : List ℕ) → IsLawful f counts → worth f.rows counts ≤ℤ pos most_added
  pub none : f.count ≡ 0 → f.sum ≡ pos 0
  pub floors : (i : ℕ) → i < cells_of f.rows → nat_at f.rows.floor i ≡ 0

-- no row has a greater number
pub record IsOutermost (f : Fractional) (outermost : ℤ) : Type 0 where
  pub small : nat_abs outermost ≤ 2 ^ 63
  pub within : (i : ℕ) → i < cells_of f.rows → int_at f.rows.gain i ≡ pos 1 → int_at f.sums.gain i ≤ℤ outermost

-- counts that are allowed and have a row, whose ratio is this fraction
pub record HasRatio (f : Fractional) (r : Ratio) (counts : List ℕ) : Type 0 where
  pub lawful : IsLawful f counts
  pub some : pos 0 <ℤ rows_with f counts
  pub same : r.num *ℤ rows_with f counts ≡ sum_with f counts *ℤ r.den
