-- The case that a seed and a size stand for: what is drawn, in the order in which it is drawn.
use Rattle.std.specs.Prelude.{ℕ, zero, suc, ◌+◌, ◌-◌, ◌*◌, ◌%◌, ◌^◌, ◌==◌, ℤ, pos, Bool, nat_lt, min, max, if◌then◌else◌, List, [], ◌∷◌, ◌++◌, length, map, filter, fold, codes, decimal, Option, Some, None}
use Rattle.std.specs.Int.{int_min, int_max}
use Rattle.pc_model.specs.declared.schema.Kind.{Kind}
use Rattle.pc_model.specs.declared.schema.Kind.TheVariants.{Int, Dec, Cat}
use Rattle.pc_model.specs.declared.schema.Column.{Column}
use Rattle.pc_model.specs.declared.schema.Schema.{Schema}
use Rattle.pc_model.specs.declared.row.Row.{Row}
use Rattle.pc_model.specs.declared.region.Side.{Side}
use Rattle.pc_model.specs.declared.region.Side.TheVariants.{Span, Names}
use Rattle.pc_model.specs.declared.region.Region.{Region}
use Rattle.pc_model.specs.declared.constraint.When.TheVariants.{Boxes}
use Rattle.pc_model.specs.declared.constraint.Constraint.{Constraint}
use Rattle.pc_model.specs.declared.query.Agg.{Agg}
use Rattle.pc_model.specs.declared.query.Agg.TheVariants.{Count, Sum, Min, Max, Avg}
use Rattle.pc_model.specs.declared.query.Query.{Query}
use Rattle.pc_model.specs.Aggregate.{number_at}
use Rattle.pc_model.specs.Membership.{has, row_from as row}
use Rattle.pc_model.specs.Regions.{one_box, whole_area, whole_side, whole_region}
use Rattle.pc_rows.specs.declared.case.Case.{Case}
use Rattle.pc_gen.specs.Draws.{after, draw}

-- ---- the schema: branch,cat,A,B,C,D and day,int,1,31 and price,dec,2,0.00,1000.00

abbrev pub branch_kind : Kind
branch_kind = Cat (codes "A" ∷ codes "B" ∷ codes "C" ∷ codes "D" ∷ [])

abbrev pub day_kind : Kind
day_kind = Int (pos 1) (pos 31)

abbrev pub price_kind : Kind
price_kind = Dec 2 (pos 0) (pos 100000)

abbrev pub column_named : List ℕ → Kind → Column
column_named name kind = record { name = name; kind = kind }

abbrev pub generated_schema : Schema
generated_schema = record {
  columns = column_named (codes "branch") branch_kind ∷ column_named (codes "day") day_kind ∷ column_named (codes "price") price_kind ∷ [];
}

-- the place of the prices
abbrev pub price_column : ℕ
price_column = 2

-- ---- rows

-- three draws: the place of the branch, the day, and the price in hundredths
abbrev pub drawn_row : ℕ → Row
drawn_row state = row (pos (draw 4 state) ∷ pos (1 + draw 31 (after 1 state)) ∷ pos (draw 100001 (after 2 state)) ∷ [])

-- so many rows, one after the other
unfoldable pub drawn_rows : ℕ → ℕ → List Row
drawn_rows zero state = []
drawn_rows (suc more) state = drawn_row state ∷ drawn_rows more (after 3 state)

-- the state after so many rows
abbrev pub after_rows : ℕ → ℕ → ℕ
after_rows count state = after (3 * count) state

-- the seed is the first state
abbrev pub observed_rows : ℕ → ℕ → List Row
observed_rows seed size = drawn_rows (100 * size) seed

-- the rows that are lost, drawn after the observed ones
abbrev pub hidden_rows : ℕ → ℕ → List Row
hidden_rows seed size = drawn_rows (10 * size) (after_rows (100 * size) seed)

-- ---- constraints

abbrev pub region_of : Side → Side → Side → Region
region_of branches days prices = record { sides = branches ∷ days ∷ prices ∷ [] }

-- one draw: the branch at a place, or any of the four
abbrev pub drawn_branches : ℕ → Side
drawn_branches state = if nat_lt (draw 5 state) 4 then Names (2 ^ draw 5 state) else whole_side branch_kind

-- from the lesser to the greater of two numbers
abbrev pub span_over : ℕ → ℕ → Side
span_over a b = Span (pos (min a b)) (pos (max a b))

-- two draws, each a number of so many from `low` on
abbrev pub drawn_span : ℕ → ℕ → ℕ → Side
drawn_span low count state = span_over (low + draw count state) (low + draw count (after 1 state))

abbrev pub is_odd : ℕ → Bool
is_odd number = number % 2 == 1

-- only the predicates of odd numbers speak of prices
abbrev pub drawn_prices : ℕ → ℕ → Side
drawn_prices number state = if is_odd number then drawn_span 0 100001 state else whole_side price_kind

abbrev pub price_draws : ℕ → ℕ
price_draws number = if is_odd number then 2 else 0

-- the predicate of the constraint of a number, counted from 0
abbrev pub drawn_when : ℕ → ℕ → Region
drawn_when number state = region_of (drawn_branches state) (drawn_span 1 31 (after 1 state)) (drawn_prices number (after 3 state))

-- one draw for its branch, two for its days, and those for its prices
abbrev pub when_draws : ℕ → ℕ
when_draws number = 3 + price_draws number

-- the region of the prices from the least to the greatest, and that of everything without prices
abbrev pub values_over : List ℤ → Region
values_over [] = whole_region generated_schema
values_over (price ∷ prices) = region_of (whole_side branch_kind) (whole_side day_kind) (Span (fold int_min price prices) (fold int_max price prices))

abbrev pub price_of : Row → ℤ
price_of found = number_at found price_column

-- the constraint on a predicate that has these hidden rows. Two draws: how much less than their number is
-- allowed, but none below 0, and how much more
abbrev pub constraint_over : ℕ → Region → List Row → ℕ → Constraint
constraint_over number when inside state = record {
  name = codes "g" ++ decimal number;
  when = Boxes (one_box when);
  values = values_over (map price_of inside);
  least = length inside - min (length inside) (draw 3 state);
  most = length inside + draw 3 (after 1 state);
}

-- the constraint of a number from 0
abbrev pub drawn_constraint : List Row → ℕ → ℕ → Constraint
drawn_constraint hidden number state =
    constraint_over number (drawn_when number state) (filter (has (drawn_when number state)) hidden) (after (when_draws number) state)

-- so many constraints, one after the other, the first of them with this number
unfoldable pub drawn_constraints : List Row → ℕ → ℕ → ℕ → List Constraint
drawn_constraints hidden zero number state = []
drawn_constraints hidden (suc more) number state =
    drawn_constraint hidden number state ∷ drawn_constraints hidden more (number + 1) (after (when_draws number + 2) state)

-- eight constraints, drawn after all rows
abbrev pub generated_constraints : ℕ → ℕ → List Constraint
generated_constraints seed size =
    drawn_constraints (hidden_rows seed size) 8 0 (after_rows (10 * size) (after_rows (100 * size) seed))

-- ---- queries

-- an aggregate of all rows
abbrev pub query_of_all : Agg → Option ℕ → Query
query_of_all agg column = record { agg = agg; column = column; chosen = whole_area generated_schema; group = None }

abbrev pub generated_queries : List Query
generated_queries =
    query_of_all Count None ∷ query_of_all Sum (Some price_column) ∷ query_of_all Min (Some price_column) ∷ query_of_all Max (Some price_column) ∷ query_of_all Avg (Some price_column) ∷ []

-- ---- the case

abbrev pub generated_case : ℕ → ℕ → Case
generated_case seed size = record {
  schema = generated_schema;
  rows = observed_rows seed size;
  constraints = generated_constraints seed size;
  queries = generated_queries;
}
