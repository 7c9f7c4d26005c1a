-- What a draft is good for.
use Rattle.std.specs.Prelude.{◌≡◌, ℕ, ◌≤◌, ℤ, ◌≤ℤ◌, Bool, true, false, ⊤, List, All, length, Option, Some, None, count_by, slice_get}
use Rattle.std.specs.List.{list_any}
use Rattle.pc_model.specs.declared.area.Area.{Area}
use Rattle.pc_model.specs.declared.constraint.Constraint.{Constraint}
use Rattle.pc_model.specs.declared.region.Side.{Side}
use Rattle.pc_model.specs.declared.region.Side.TheVariants.{Span, Names}
use Rattle.pc_model.specs.declared.row.Row.{Row}
use Rattle.pc_model.specs.declared.schema.Schema.{Schema}
use Rattle.pc_model.specs.Aggregate.{number_at}
use Rattle.pc_model.specs.Membership.{in_domain, is_in}
use Rattle.pc_model.specs.Possible.{IsPossible}
use Rattle.pc_desk_history.specs.declared.wish.Wish.{Wish}
use Rattle.pc_desk_history.specs.Draft.{drafted_cell, drafted_of, is_fixed}
use Rattle.pc_desk_history.specs.Periods.{IsPeriod, count_in, rows_in, rows_of}

-- ---- cells

-- no row of the domain is in two cells
abbrev pub AreApart : Schema → List Area → Type 0
AreApart schema cells = (row : Row) → in_domain schema row ≡ true → count_by (λ (cell : Area). is_in cell row) cells ≤ 1

abbrev pub is_in_some : List Area → Row → Bool
is_in_some cells row = list_any (λ (cell : Area). is_in cell row) cells

-- each row of the domain that is chosen is in a cell
abbrev pub DoCover : Schema → Area → List Area → Type 0
DoCover schema chosen cells = (row : Row) → in_domain schema row ≡ true → is_in chosen row ≡ true → is_in_some cells row ≡ true

-- no row of the domain is in a cell that is not chosen
abbrev pub AreWithin : Schema → Area → List Area → Type 0
AreWithin schema chosen cells = (row : Row) → in_domain schema row ≡ true → is_in_some cells row ≡ true → is_in chosen row ≡ true

-- ---- periods that are past

-- the rows of each period could be the lost rows
abbrev pub ArePastPossible : Schema → List Row → Area → List Area → Wish → Type 0
ArePastPossible schema rows chosen cells wish =
    (period : ℤ) → IsPeriod schema wish.per (rows_in chosen rows) period →
    IsPossible schema (drafted_of schema rows chosen cells wish) (rows_of wish.per period (rows_in chosen rows))

-- ---- no tighter draft

abbrev pub EachPeriod : Schema → Wish → List Row → (ℤ → Type 0) → Type 0
EachPeriod schema wish chosen Holds = (period : ℤ) → IsPeriod schema wish.per chosen period → Holds period

-- a side from low to high is no wider than that
abbrev pub IsNoWider : ℤ → ℤ → Option Side → Type 0
IsNoWider low high None = ⊤
IsNoWider low high (Some (Span from to)) = (low ≤ℤ from) × (to ≤ℤ high)
IsNoWider low high (Some (Names bits)) = ⊤

-- of the constraint of a cell no least is greater, no most less, and no side of a column narrower that holds of all periods
pub record IsTight (schema : Schema) (wish : Wish) (chosen inside : List Row) (c : Constraint) : Type 0 where
  pub least : (least : ℕ) → EachPeriod schema wish chosen (λ period. least ≤ count_in wish.per inside period) → least ≤ c.least
  pub most : (most : ℕ) → EachPeriod schema wish chosen (λ period. count_in wish.per inside period ≤ most) → c.most ≤ most
  pub sides : (column : ℕ) (low high : ℤ) → is_fixed wish column ≡ false → 1 ≤ length inside
      → All (λ row. (low ≤ℤ number_at row column) × (number_at row column ≤ℤ high)) inside
      → IsNoWider low high (slice_get c.values.sides column)

-- .. where nothing is widened and no number of lost rows is given
abbrev pub AreTight : Schema → List Row → Area → List Area → Wish → Type 0
AreTight schema rows chosen cells wish =
    (number : ℕ) → All (λ cell. IsTight schema wish (rows_in chosen rows) (rows_in cell rows) (drafted_cell schema wish rows chosen number cell)) cells
