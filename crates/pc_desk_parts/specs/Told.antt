-- What it is that a hold tells of lost rows.
use Rattle.std.specs.Prelude.{◌≡◌, ℕ, Bool, true, false, not, List, IsSomeAnd, slice_get}
use Rattle.pc_model.specs.declared.constraint.Constraint.{Constraint}
use Rattle.pc_model.specs.declared.row.Row.{Row}
use Rattle.pc_model.specs.Membership.{has, in_domain, is_under}
use Rattle.pc_model.specs.Possible.{count_of}
use Rattle.pc_model.specs.Runs.{rows_of}
use Rattle.pc_desk_parts.specs.declared.asked.Asked.{Asked}
use Rattle.pc_desk_parts.specs.declared.asked.Reached.{Reached}
use Rattle.pc_desk_parts.specs.declared.part.Hold.{Hold}
use Rattle.pc_desk_parts.specs.declared.part.Hold.TheVariants as holds
use Rattle.pc_desk_parts.specs.declared.pulls.Pull.TheVariants.{More, Fewer}
use Rattle.pc_desk_parts.specs.Ends.{pull_of}
use Rattle.pc_desk_parts.specs.Held.{column_of, narrows, next_of}

-- the constraint speaks of the row, and as many of the lost rows are under it as the limit says
pub record IsAtLimit (constraints : List Constraint) (lost : List Row) (row : Row) (limit : ℕ) (c : Constraint) : Type 0 where
  pub speaks : is_under constraints c row ≡ true
  pub full : count_of constraints c lost ≡ limit

-- the constraint speaks of the next row too, and its values do not have it; of a next row that the schema does not allow: its
-- values rule out some number which the column has
abbrev pub Bars : Asked → Row → Constraint → Bool → Type 0
Bars ask next c true = (is_under ask.constraints.now c next ≡ true) × (has c.values next ≡ false)
Bars ask next c false = narrows ask.schema.now (column_of ask) c.values ≡ true

-- the constraint speaks of the row, and bars the next one
pub record BarsValue (ask : Asked) (row next : Row) (c : Constraint) : Type 0 where
  pub speaks : is_under ask.constraints.now c row ≡ true
  pub bars : Bars ask next c (in_domain ask.schema.now next)

-- the schema allows the next row, and the constraint speaks of one of the rows alone
pub record SpeaksOfOne (ask : Asked) (row next : Row) (c : Constraint) : Type 0 where
  pub allowed : in_domain ask.schema.now next ≡ true
  pub differs : is_under ask.constraints.now c next ≡ not (is_under ask.constraints.now c row)

-- this of the constraint at a place
abbrev pub OfPlace : Asked → ℕ → (Constraint → Type 0) → Type 0
OfPlace ask place P = IsSomeAnd (slice_get ask.constraints.now place) P

-- It holds: more such rows would move the end out, and a constraint that speaks of them allows no more; or fewer would, and it
-- needs as many; or its values do not have the next row, or it speaks of one of both alone, or the schema does not allow the next.
unfoldable pub Holds : Asked → Reached → Row → Hold → Type 0
Holds ask reached row (holds.Most place) =
    (pull_of ask reached row ≡ More)
    × OfPlace ask place (λ c. IsAtLimit ask.constraints.now (rows_of reached.runs.now) row c.most c)
Holds ask reached row (holds.Least place) =
    (pull_of ask reached row ≡ Fewer)
    × OfPlace ask place (λ c. IsAtLimit ask.constraints.now (rows_of reached.runs.now) row c.least c)
Holds ask reached row (holds.Values place) =
    IsSomeAnd (next_of ask reached row) (λ next. OfPlace ask place (BarsValue ask row next))
Holds ask reached row (holds.When place) =
    IsSomeAnd (next_of ask reached row) (λ next. OfPlace ask place (SpeaksOfOne ask row next))
Holds ask reached row holds.Schema = IsSomeAnd (next_of ask reached row) (λ next. in_domain ask.schema.now next ≡ false)
