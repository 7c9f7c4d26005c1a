-- What keeps lost rows from giving more.
use Rattle.std.specs.Prelude.{ℕ, ℤ, pos, ◌+ℤ◌, ◌-ℤ◌, ◌==◌, ◌&&◌, ◌||◌, if◌then◌else◌, Bool, true, false, List, [], ◌∷◌, ◌++◌, Option, Some, None, flat_map, int_lt, slice_get, slice_set, unwrap_or}
use Rattle.std.specs.List.{enumerate_from}
use Rattle.pc_model.specs.declared.constraint.Constraint.{Constraint}
use Rattle.pc_model.specs.declared.row.Row.{Row}
use Rattle.pc_model.specs.declared.region.Region.{Region}
use Rattle.pc_model.specs.declared.region.Side.{Side as ColumnSide}
use Rattle.pc_model.specs.declared.region.Side.TheVariants as sides
use Rattle.pc_model.specs.declared.schema.Column.{Column}
use Rattle.pc_model.specs.declared.schema.Kind.{Kind}
use Rattle.pc_model.specs.declared.schema.Kind.TheVariants.{Int, Dec, Cat}
use Rattle.pc_model.specs.declared.schema.Schema.{Schema}
use Rattle.pc_model.specs.Aggregate.{number_at}
use Rattle.pc_model.specs.Membership.{has, in_domain, is_under}
use Rattle.pc_model.specs.Possible.{count_of}
use Rattle.pc_model.specs.Runs.{rows_of}
use Rattle.pc_desk_parts.specs.declared.asked.Asked.{Asked}
use Rattle.pc_desk_parts.specs.declared.asked.Reached.{Reached}
use Rattle.pc_desk_parts.specs.declared.asked.Side.{Side}
use Rattle.pc_desk_parts.specs.declared.asked.Side.TheVariants.{Low, High}
use Rattle.pc_desk_parts.specs.declared.part.Hold.{Hold}
use Rattle.pc_desk_parts.specs.declared.part.Hold.TheVariants as holds
use Rattle.pc_desk_parts.specs.declared.pulls.Pull.{Pull}
use Rattle.pc_desk_parts.specs.declared.pulls.Pull.TheVariants.{More, Fewer, Neither}
use Rattle.pc_desk_parts.specs.declared.pulls.Way.{Way}
use Rattle.pc_desk_parts.specs.declared.pulls.Way.TheVariants.{Adding, Being, Standing}
use Rattle.pc_desk_parts.specs.declared.stands.Stand.{Stand}
use Rattle.pc_desk_parts.specs.Ends.{pull_of, stand_of, way_for}
use Rattle.pc_desk_parts.specs.Stands.{is_at}

-- what each constraint gives, with its place, in their order
abbrev pub of_each : {X : Type 0} → (ℕ → Constraint → List X) → List Constraint → List X
of_each {X} given constraints = flat_map (λ (entry : ℕ × Constraint). given entry.0 entry.1) (enumerate_from 0 constraints)

-- the places of the constraints that speak of a row
abbrev pub place_if_under : List Constraint → Row → ℕ → Constraint → List ℕ
place_if_under constraints row place c = if is_under constraints c row then place ∷ [] else []

abbrev pub places_under : List Constraint → Row → List ℕ
places_under constraints row = of_each (place_if_under constraints row) constraints

-- ---- limits: as many lost rows are under a constraint that speaks of the row as it allows, where more would move the end out

abbrev pub is_full : Pull → Constraint → ℕ → Bool
is_full More c count = count == c.most
is_full Fewer c count = count == c.least
is_full Neither c count = false

abbrev pub limit_hold : Pull → ℕ → Hold
limit_hold More place = holds.Most place
limit_hold Fewer place = holds.Least place
limit_hold Neither place = holds.Schema

abbrev pub limit_at : List Constraint → List Row → Pull → Row → ℕ → Constraint → List Hold
limit_at constraints lost pull row place c =
    if is_under constraints c row && is_full pull c (count_of constraints c lost) then limit_hold pull place ∷ [] else []

abbrev pub limits_of : List Constraint → List Row → Pull → Row → List Hold
limits_of constraints lost pull row = of_each (limit_at constraints lost pull row) constraints

-- ---- the next value

abbrev pub next_number : Side → ℤ → ℤ
next_number Low number = number -ℤ pos 1
next_number High number = number +ℤ pos 1

-- the row with the next number further out in a column
abbrev pub next_at : Side → Row → ℕ → Row
next_at side row column = record { cells = slice_set row.cells column (next_number side (number_at row column)) }

-- of a quantile, a row's next number matters where its own is the end
abbrev pub has_next : Way → Stand → Bool
has_next Adding stand = true
has_next Being stand = true
has_next Standing stand = is_at stand

abbrev pub next_in : Side → Row → Option ℕ → Option Row
next_in side row None = None
next_in side row (Some column) = Some (next_at side row column)

abbrev pub next_of : Asked → Reached → Row → Option Row
next_of ask reached row =
    if has_next (way_for ask) (stand_of ask reached row) then next_in reached.side row ask.query.now.column else None

-- a constraint that speaks of just one of two rows, or of both without having the second in its values
abbrev pub block_hold : Bool → Bool → Bool → ℕ → List Hold
block_hold true true inside place = if inside then [] else holds.Values place ∷ []
block_hold true false inside place = holds.When place ∷ []
block_hold false true inside place = holds.When place ∷ []
block_hold false false inside place = []

-- values that rule out some number which the column has
abbrev pub is_narrower : ℤ → ℤ → ColumnSide → Bool
is_narrower low high (sides.Span from to) = int_lt low from || int_lt to high
is_narrower low high (sides.Names bits) = false

abbrev pub narrows_kind : Kind → ColumnSide → Bool
narrows_kind (Int low high) side = is_narrower low high side
narrows_kind (Dec scale low high) side = is_narrower low high side
narrows_kind (Cat names) side = false

abbrev pub narrows_by : Option Column → Option ColumnSide → Bool
narrows_by None side = false
narrows_by (Some column) None = false
narrows_by (Some column) (Some side) = narrows_kind column.kind side

unfoldable pub narrows : Schema → ℕ → Region → Bool
narrows schema column values = narrows_by (slice_get schema.columns column) (slice_get values.sides column)

-- Of a row that the schema does not allow, a constraint that speaks of the first row and narrows the column; what predicates and
-- other values say there is what the schema says.
abbrev pub beyond_hold : Bool → ℕ → List Hold
beyond_hold narrowed place = if narrowed then holds.Values place ∷ [] else []

abbrev pub block_by : Schema → ℕ → List Constraint → Row → Row → Bool → ℕ → Constraint → List Hold
block_by schema column constraints row next true place c =
    block_hold (is_under constraints c row) (is_under constraints c next) (has c.values next) place
block_by schema column constraints row next false place c =
    beyond_hold (is_under constraints c row && narrows schema column c.values) place

abbrev pub block_at : Schema → ℕ → List Constraint → Row → Row → ℕ → Constraint → List Hold
block_at schema column constraints row next = block_by schema column constraints row next (in_domain schema next)

abbrev pub schema_hold : Bool → List Hold
schema_hold allowed = if allowed then [] else holds.Schema ∷ []

abbrev pub blocks_of : Schema → ℕ → List Constraint → Row → Option Row → List Hold
blocks_of schema column constraints row None = []
blocks_of schema column constraints row (Some next) =
    of_each (block_at schema column constraints row next) constraints ++ schema_hold (in_domain schema next)

-- the column of the next number
abbrev pub column_of : Asked → ℕ
column_of ask = unwrap_or ask.query.now.column 0

-- what keeps rows like this one from giving more: limits, and then what stands before the next value
abbrev pub held_of : Asked → Reached → Row → List Hold
held_of ask reached row =
    limits_of ask.constraints.now (rows_of reached.runs.now) (pull_of ask reached row) row
    ++ blocks_of ask.schema.now (column_of ask) ask.constraints.now row (next_of ask reached row)
