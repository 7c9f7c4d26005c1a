-- What the parts of an end come to together.
use Rattle.std.specs.Prelude.{◌≡◌, ℕ, ℤ, pos, ◌≤◌, ◌<◌, cond, Bool, true, false, List, ◌++◌, length, map, sum_by, All, IsSomeAnd}
use Rattle.pc_model.specs.declared.row.Row.{Row}
use Rattle.pc_model.specs.declared.query.Agg.{Agg}
use Rattle.pc_model.specs.declared.query.Agg.TheVariants.{Count, Sum, Min, Max, Avg}
use Rattle.pc_model.specs.Aggregate.{Ratio, IsSame, asked, int_sum, kept, whole}
use Rattle.pc_model.specs.Folds.{IsFold}
use Rattle.pc_model.specs.Right.{Question}
use Rattle.pc_desk_parts.specs.declared.asked.Asked.{Asked}
use Rattle.pc_desk_parts.specs.declared.asked.Seen.{Seen}
use Rattle.pc_desk_parts.specs.declared.asked.Seen.TheVariants as seens
use Rattle.pc_desk_parts.specs.declared.part.Adds.{Adds}
use Rattle.pc_desk_parts.specs.declared.part.Adds.TheVariants.{Nothing, Amount, Stands}
use Rattle.pc_desk_parts.specs.declared.part.Part.{Part}
use Rattle.pc_desk_parts.specs.declared.stands.Stand.{Stand}
use Rattle.pc_desk_parts.specs.Stands.{is_stand}

-- what is asked, over these observed rows
abbrev pub question_of : Asked → List Row → Question
question_of ask observed = record {
  schema = ask.schema.now;
  observed = observed;
  constraints = ask.constraints.now;
  query = ask.query.now;
  name = ask.name;
}

-- what was observed is the fold of these rows, or the numbers of those that the query speaks of
abbrev pub IsSeen : Asked → List Row → Seen → Type 0
IsSeen ask observed (seens.Folded folded) = IsFold ask.query.now ask.name observed folded
IsSeen ask observed (seens.Numbers numbers) = numbers.now ≡ map (asked ask.query.now) (kept ask.query.now ask.name observed)

-- the end's value is that of the query itself, or of a quantile
abbrev pub is_folded : Seen → Bool
is_folded (seens.Folded folded) = true
is_folded (seens.Numbers numbers) = false

-- the numbers of all rows that the query speaks of
abbrev pub numbers_of : Asked → List Row → List Row → List ℤ
numbers_of ask observed lost = map (asked ask.query.now) (kept ask.query.now ask.name (observed ++ lost))

abbrev pub amount_of : Adds → ℤ
amount_of Nothing = pos 0
amount_of (Amount amount) = amount
amount_of (Stands stand) = pos 0

-- what parts add together
abbrev pub amounts : List Part → ℤ
amounts parts = int_sum (map (λ (part : Part). amount_of part.adds) parts)

-- how many rows they have
abbrev pub rows_in : List Part → ℕ
rows_in parts = sum_by (λ (part : Part). part.rows) parts

abbrev pub stands_so : Stand → Adds → Bool
stands_so stand Nothing = false
stands_so stand (Amount amount) = false
stands_so stand (Stands other) = is_stand stand other

-- how many of their rows stand so
abbrev pub rows_standing : Stand → List Part → ℕ
rows_standing stand parts = sum_by (λ (part : Part). cond (stands_so stand part.adds) part.rows 0) parts

-- a part whose number is the value
abbrev pub IsOfValue : Ratio → Part → Type 0
IsOfValue value part = IsSomeAnd part.value (λ number. IsSame (whole number) value)

pub record AreOfValue (value : Ratio) (parts : List Part) : Type 0 where
  pub some : 1 ≤ length parts
  pub each : All (IsOfValue value) parts

-- what the parts add, by how many rows they have
pub record AverageTo (value : Ratio) (parts : List Part) : Type 0 where
  pub some : 0 < rows_in parts
  pub same : IsSame (record { num = amounts parts; den = pos (rows_in parts) }) value

-- the parts make up the value: a count or a sum by what they add, an average by that and their rows, and of the least and the
-- greatest each has it for its number
abbrev pub MakeUp : Agg → Ratio → List Part → Type 0
MakeUp Count value parts = IsSame (whole (amounts parts)) value
MakeUp Sum value parts = IsSame (whole (amounts parts)) value
MakeUp Min value parts = AreOfValue value parts
MakeUp Max value parts = AreOfValue value parts
MakeUp Avg value parts = AverageTo value parts
