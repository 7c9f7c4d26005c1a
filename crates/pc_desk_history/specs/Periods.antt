-- The periods of a table of lost rows, and how many rows of a list each has.
use Rattle.std.specs.Prelude.{◌≡◌, ℕ, ◌+◌, ◌<◌, ◌^◌, ℤ, pos, ◌-ℤ◌, int_le, Bool, true, false, ⊤, if◌then◌else◌, List, [], ◌∷◌, ◌++◌, length, map, filter, fold, count_by, Option, Some, None, position, slice_get, slice_index_or, slice_set}
use Rattle.std.specs.Int.{int_min, int_max}
use Rattle.std.specs.List.{list_any}
use Rattle.std.specs.Ordering.{int_eq}
use Rattle.pc_model.specs.declared.area.Area.{Area}
use Rattle.pc_model.specs.declared.row.Row.{Row}
use Rattle.pc_model.specs.declared.schema.Kind.{Kind}
use Rattle.pc_model.specs.declared.schema.Kind.TheVariants.{Int, Dec, Cat}
use Rattle.pc_model.specs.declared.schema.Column.{Column}
use Rattle.pc_model.specs.declared.schema.Schema.{Schema}
use Rattle.pc_model.specs.Aggregate.{number_at}
use Rattle.pc_model.specs.Folds.{best_at}
use Rattle.pc_model.specs.Membership.{is_in}
use Rattle.pc_rows.specs.Stored.{row_at}
use Rattle.pc_desk_history.specs.declared.extent.Extent.{Extent}

-- ---- rows and their periods

-- the rows that an area holds
abbrev pub rows_in : Area → List Row → List Row
rows_in area rows = filter (is_in area) rows

-- the number by which the period of a row is known: that of a column, or 0 where all rows are of one period
abbrev pub period_of : Option ℕ → Row → ℤ
period_of None row = pos 0
period_of (Some column) row = number_at row column

abbrev pub is_of : Option ℕ → ℤ → Row → Bool
is_of per period row = int_eq (period_of per row) period

-- the rows of a period
abbrev pub rows_of : Option ℕ → ℤ → List Row → List Row
rows_of per period rows = filter (is_of per period) rows

-- how many they are
abbrev pub count_in : Option ℕ → List Row → ℤ → ℕ
count_in per rows period = count_by (is_of per period) rows

-- ---- lists of periods

-- a period is listed once
abbrev pub with_period : List ℤ → ℤ → List ℤ
with_period periods period = if list_any (int_eq period) periods then periods else periods ++ period ∷ []

-- the periods that some row has, in the order of their first rows
abbrev pub periods_of : Option ℕ → List Row → List ℤ
periods_of per rows = fold (λ (periods : List ℤ) (row : Row). with_period periods (period_of per row)) [] rows

-- how many of the rows each period has
abbrev pub counts_of : Option ℕ → List ℤ → List Row → List ℕ
counts_of per periods rows = map (count_in per rows) periods

-- ---- one row more

-- one more at a place
abbrev pub with_one : List ℕ → ℕ → List ℕ
with_one counts place = slice_set counts place (slice_index_or counts place 0 + 1)

abbrev pub with_one_at : List ℕ → Option ℕ → List ℕ
with_one_at counts None = counts
with_one_at counts (Some place) = with_one counts place

-- counts of the rows of an area in each of these periods, with one row more
abbrev pub counts_with : Option ℕ → List ℤ → Area → Row → List ℕ → List ℕ
counts_with per periods area row counts =
    if is_in area row then with_one_at counts (position (int_eq (period_of per row)) periods) else counts

-- periods of the rows of an area, with one row more
abbrev pub periods_with : Option ℕ → Area → Row → List ℤ → List ℤ
periods_with per area row periods = if is_in area row then with_period periods (period_of per row) else periods

-- ---- extents

abbrev pub extent_from : Option ℤ → Option ℤ → Option Extent
extent_from None high = None
extent_from (Some low) None = None
extent_from (Some low) (Some high) = Some (record { low = low; high = high })

-- from the least to the greatest number of rows in a column, if there is a row
abbrev pub extent_of : ℕ → List Row → Option Extent
extent_of column rows = extent_from (best_at int_min (Some column) rows) (best_at int_max (Some column) rows)

-- ---- periods that no row has

-- whether an extent has more numbers than so many
abbrev pub is_wider : ℕ → Option Extent → Bool
is_wider count None = false
is_wider count (Some extent) = int_le (pos count) (extent.high -ℤ extent.low)

abbrev pub has_gap : ℕ → List Row → Kind → Bool
has_gap column rows (Int low high) = is_wider (length (periods_of (Some column) rows)) (extent_of column rows)
has_gap column rows (Dec scale low high) = is_wider (length (periods_of (Some column) rows)) (extent_of column rows)
has_gap column rows (Cat names) = false

abbrev pub has_gap_in : ℕ → List Row → Option Column → Bool
has_gap_in column rows None = false
has_gap_in column rows (Some c) = has_gap column rows c.kind

-- whether some period has no row at all: of numbers each from the least to the greatest is a period, of names those alone that
-- some row has
abbrev pub is_gapped : Schema → Option ℕ → List Row → Bool
is_gapped schema None rows = false
is_gapped schema (Some column) rows = has_gap_in column rows (slice_get schema.columns column)

-- ---- what is a period

-- between the periods of two rows
pub record IsBetween (column : ℕ) (rows : List Row) (period : ℤ) : Type 0 where
  pub first : list_any (λ (row : Row). int_le (number_at row column) period) rows ≡ true
  pub last : list_any (λ (row : Row). int_le period (number_at row column)) rows ≡ true

abbrev pub IsPeriodFor : ℕ → List Row → ℤ → Kind → Type 0
IsPeriodFor column rows period (Int low high) = IsBetween column rows period
IsPeriodFor column rows period (Dec scale low high) = IsBetween column rows period
IsPeriodFor column rows period (Cat names) = list_any (is_of (Some column) period) rows ≡ true

abbrev pub IsPeriodOf : ℕ → List Row → ℤ → Option Column → Type 0
IsPeriodOf column rows period None = ⊥
IsPeriodOf column rows period (Some c) = IsPeriodFor column rows period c.kind

-- a period of these rows
abbrev pub IsPeriod : Schema → Option ℕ → List Row → ℤ → Type 0
IsPeriod schema None rows period = period ≡ pos 0
IsPeriod schema (Some column) rows period = IsPeriodOf column rows period (slice_get schema.columns column)

-- ---- what is asked of rows

-- each row has a number in the column
pub record HaveNumbers (column : ℕ) (rows : List Row) : Type 0 where
  pub few : column < 2 ^ 8
  pub each : (place : ℕ) → place < length rows → column < length (row_at rows place).cells

abbrev pub HavePeriods : Option ℕ → List Row → Type 0
HavePeriods None rows = ⊤
HavePeriods (Some column) rows = HaveNumbers column rows
