-- Which constraints the rows of periods that are past suggest.
use Rattle.std.specs.Prelude.{◌≡◌, ℕ, ◌+◌, ◌*◌, ◌/◌, ◌<◌, ◌≤◌, ◌==◌, ◌&&◌, ◌||◌, not, min, max, ℤ, Bool, false, if◌then◌else◌, List, [], ◌∷◌, length, fold, codes, decimal, Option, Some, None, is_some, IfSome, All, ⊤}
use Rattle.std.specs.Int.{div_ceil}
use Rattle.std.specs.List.{concat, list_any}
use Rattle.pc_model.specs.declared.area.Area.{Area}
use Rattle.pc_model.specs.declared.constraint.Constraint.{Constraint}
use Rattle.pc_model.specs.declared.constraint.When.TheVariants.{Boxes}
use Rattle.pc_model.specs.declared.region.Region.{Region}
use Rattle.pc_model.specs.declared.region.Side.{Side}
use Rattle.pc_model.specs.declared.region.Side.TheVariants.{Span}
use Rattle.pc_model.specs.declared.row.Row.{Row}
use Rattle.pc_model.specs.declared.schema.Column.{Column}
use Rattle.pc_model.specs.declared.schema.Kind.{Kind}
use Rattle.pc_model.specs.declared.schema.Kind.TheVariants.{Int, Dec, Cat}
use Rattle.pc_model.specs.declared.schema.Schema.{Schema}
use Rattle.pc_model.specs.Accepted.{frequency_limit}
use Rattle.pc_model.specs.Regions.{whole_side}
use Rattle.pc_desk_history.specs.declared.numbers.Numbers.{Numbers}
use Rattle.pc_desk_history.specs.declared.extent.Extent.{Extent}
use Rattle.pc_desk_history.specs.declared.numbers.Past.{Past}
use Rattle.pc_desk_history.specs.declared.wish.Wish.{Wish}
use Rattle.pc_desk_history.specs.Periods.{count_in, counts_of, is_gapped, periods_of, extent_of, rows_in}
use Rattle.pc_desk_history.specs.Widening.{percent_limit, widened_numbers, widened_extent}

-- ---- numbers of rows

-- what a period says of a cell of which it has so many rows, and so many rows in all: just so many, or where a number of lost
-- rows is given the same share of them, rounded down and up, and no more than all
abbrev pub numbers_for : Option ℕ → ℕ → ℕ → Numbers
numbers_for None count total = record { least = count; most = count }
numbers_for (Some lost) count total = record { least = min lost ((lost * count) / max 1 total); most = min lost (div_ceil (lost * count) (max 1 total)) }

-- no more than a constraint may allow
pub record AreFew (numbers : Numbers) : Type 0 where
  pub least : numbers.least ≤ frequency_limit
  pub most : numbers.most ≤ frequency_limit

-- numbers that hold of one period more
abbrev pub numbers_with : Option Numbers → Numbers → Option Numbers
numbers_with None numbers = Some numbers
numbers_with (Some before) numbers = Some (record { least = min before.least numbers.least; most = max before.most numbers.most })

-- what one period says of the rows of a cell, among all that are chosen
abbrev pub numbers_in : Wish → List Row → List Row → ℤ → Numbers
numbers_in wish chosen inside period = numbers_for wish.lost (count_in wish.per inside period) (count_in wish.per chosen period)

-- what holds of each of these periods, if there is one
abbrev pub numbers_over : Wish → List Row → List Row → List ℤ → Option Numbers
numbers_over wish chosen inside periods =
    fold (λ (before : Option Numbers) (period : ℤ). numbers_with before (numbers_in wish chosen inside period)) None periods

-- a period without rows has none of the cell
abbrev pub from_none : Bool → Numbers → Numbers
from_none gapped numbers = if gapped then record { least = 0; most = numbers.most } else numbers

-- periods of which no row is known are passed over where a number of lost rows is given
abbrev pub counts_gaps : Schema → Wish → List Row → Bool
counts_gaps schema wish chosen = not (is_some wish.lost) && is_gapped schema wish.per chosen

abbrev pub or_none : Option Numbers → Numbers
or_none None = record { least = 0; most = 0 }
or_none (Some numbers) = numbers

-- how many rows of a cell may be lost, where these are the rows chosen and those of the cell
abbrev pub numbers_of : Schema → Wish → List Row → List Row → Numbers
numbers_of schema wish chosen inside =
    widened_numbers wish.widen
    (from_none (counts_gaps schema wish chosen) (or_none (numbers_over wish chosen inside (periods_of wish.per chosen))))

-- the same from the counts of the periods in a cell and in all
abbrev pub numbers_from : Option ℕ → List ℕ → List ℕ → Option Numbers → Option Numbers
numbers_from lost [] totals before = before
numbers_from lost (count ∷ counts) [] before = before
numbers_from lost (count ∷ counts) (total ∷ totals) before =
    numbers_from lost counts totals (numbers_with before (numbers_for lost count total))

-- what is known of the past beside its rows: periods, the rows of each, and whether there are periods without any
pub record IsPast (schema : Schema) (wish : Wish) (chosen : List Row) (past : Past) : Type 0 where
  pub periods : past.periods.keys ≡ periods_of wish.per chosen
  pub totals : past.totals.items ≡ counts_of wish.per (periods_of wish.per chosen) chosen
  pub gapped : past.gapped ≡ counts_gaps schema wish chosen

-- ---- values

-- whether a column has a place among some
abbrev pub is_listed : List ℕ → ℕ → Bool
is_listed places column = list_any (λ place. place == column) places

abbrev pub is_per : Option ℕ → ℕ → Bool
is_per None column = false
is_per (Some place) column = place == column

-- by which cells or periods are made, so that its values follow from them
abbrev pub is_fixed : Wish → ℕ → Bool
is_fixed wish column = is_listed wish.divided column || is_per wish.per column

abbrev pub side_within : ℕ → ℤ → ℤ → Option Extent → Side
side_within percent low high None = Span low high
side_within percent low high (Some extent) = Span (widened_extent percent low high extent).low (widened_extent percent low high extent).high

-- the range of the rows of the cell, where a column has numbers
abbrev pub ranged_side : ℕ → Kind → Option Extent → Side
ranged_side percent (Int low high) extent = side_within percent low high extent
ranged_side percent (Dec scale low high) extent = side_within percent low high extent
ranged_side percent (Cat names) extent = whole_side (Cat names)

abbrev pub side_of : Wish → List Row → ℕ → Kind → Side
side_of wish inside column kind =
    if is_fixed wish column then whole_side kind else ranged_side wish.widen kind (extent_of column inside)

-- the sides of the columns from a place on
unfoldable pub sides_from : Wish → List Row → ℕ → List Column → List Side
sides_from wish inside column [] = []
sides_from wish inside column (c ∷ columns) = side_of wish inside column c.kind ∷ sides_from wish inside (column + 1) columns

abbrev pub values_of : Schema → Wish → List Row → Region
values_of schema wish inside = record { sides = sides_from wish inside 0 schema.columns }

-- ---- the draft

abbrev pub cell_name : ℕ → List ℕ
cell_name number = concat (codes "cell" ∷ decimal number ∷ [])

-- the constraint of a cell
abbrev pub constraint_of : ℕ → Area → Region → Numbers → Constraint
constraint_of number cell values numbers = record {
  name = cell_name number;
  when = Boxes cell;
  values = values;
  least = numbers.least;
  most = numbers.most;
}

abbrev pub drafted_cell : Schema → Wish → List Row → Area → ℕ → Area → Constraint
drafted_cell schema wish rows chosen number cell =
    constraint_of number cell (values_of schema wish (rows_in cell rows)) (numbers_of schema wish (rows_in chosen rows) (rows_in cell rows))

-- one for each cell, which are numbered from here on
unfoldable pub drafted_from : Schema → Wish → List Row → Area → ℕ → List Area → List Constraint
drafted_from schema wish rows chosen number [] = []
drafted_from schema wish rows chosen number (cell ∷ cells) =
    drafted_cell schema wish rows chosen number cell ∷ drafted_from schema wish rows chosen (number + 1) cells

-- the draft of the rows that an area holds, for its cells
abbrev pub drafted_of : Schema → List Row → Area → List Area → Wish → List Constraint
drafted_of schema rows chosen cells wish = drafted_from schema wish rows chosen 1 cells

-- ---- what may be wished for

abbrev pub IsColumnIn : Schema → Option ℕ → Type 0
IsColumnIn schema None = ⊤
IsColumnIn schema (Some column) = column < length schema.columns

pub record IsWish (schema : Schema) (wish : Wish) : Type 0 where
  pub widen : wish.widen ≤ percent_limit
  pub lost : IfSome wish.lost (λ lost. lost ≤ frequency_limit)
  pub per : IsColumnIn schema wish.per

-- a number for each column
abbrev pub AreWide : Schema → List Row → Type 0
AreWide schema rows = All (λ row. length row.cells ≡ length schema.columns) rows
