-- What limits are made of.
use Rattle.std.specs.Prelude.{◌<◌, ◌<ℤ◌, ℕ, ◌&&◌, ◌-ℤ◌, ◌*ℤ◌, pos, Bool, true, Some, None}
use Rattle.pc_program_bound.specs.Sums.{nat_at, int_at}
use Rattle.pc_program_bound.specs.Bound.{IsFit}
use Rattle.pc_simplex_tableau.specs.Numbers.{does_fit}
use Rattle.pc_simplex_tableau.specs.Tableau.{TableauRow, Columns, Limit, Way, turning, pivoting, turning_and_pivoting, value_of, range_of, lesser, upper_limit}

-- a fraction that can be compared
pub record IsSoundFraction (limit : Limit) : Type 0 where
  pub over : IsFit limit.over
  pub under : IsFit limit.under
  pub positive : pos 0 <ℤ limit.under

-- an upper limit is made of numbers that fit
abbrev pub does_upper_fit : Columns → ℕ → TableauRow → Bool
does_upper_fit f u row = does_fit (int_at row.numbers row.basic *ℤ pos u) && does_fit (int_at row.numbers row.basic *ℤ pos u -ℤ value_of f row)

abbrev pub does_upper_limit_fit : Columns → TableauRow → Bool
does_upper_limit_fit f row = elim (range_of f row.basic) [ Some u ↦ does_upper_fit f u row | None ↦ true ]

abbrev pub own_limit : Columns → ℕ → Limit
own_limit f c = record { column = c; over = pos (nat_at f.ranges c); under = pos 1; way = turning }

-- a limit, or the upper one of the row where that is less
abbrev pub with_upper_limit : Columns → ℕ → ℕ → TableauRow → Limit → Limit
with_upper_limit f c r row best = elim (range_of f row.basic) [ Some u ↦ lesser best (upper_limit f c u r row) | None ↦ best ]

-- the row of a way is one of the first n
abbrev pub IsWayBelow : ℕ → Way → Type 0
IsWayBelow n turning = Unit {0}
IsWayBelow n (pivoting r) = r < n
IsWayBelow n (turning_and_pivoting r) = r < n

-- a limit of one of the columns, in one of the first n rows
pub record IsSoundLimit (f : Columns) (n : ℕ) (limit : Limit) : Type 0 where
  pub column : limit.column < f.count
  pub way : IsWayBelow n limit.way
