-- The changes of one limit of a constraint that are weighed, and what constraints are after one.
use Rattle.std.specs.Prelude.{ℕ, ◌+◌, ◌-◌, ◌==◌, nat_lt, if◌then◌else◌, Bool, true, List, [], ◌∷◌, ◌++◌, flat_map, map, Option, Some, None}
use Rattle.std.specs.List.{enumerate_from}
use Rattle.pc_model.specs.declared.constraint.Constraint.{Constraint}
use Rattle.pc_model.specs.declared.schema.Schema.{Schema}
use Rattle.pc_model.specs.Accepted.{frequency_limit}
use Rattle.pc_model.specs.Regions.{whole_region}
use Rattle.pc_lang.specs.Canonical.{is_whole}
use Rattle.pc_desk_weigh.specs.declared.change.Change.{Change}
use Rattle.pc_desk_weigh.specs.declared.change.Limit.{Limit}
use Rattle.pc_desk_weigh.specs.declared.change.Limit.TheVariants.{Least, Most, Values}

-- ---- what may be changed

-- of the constraint at a place
abbrev pub change_at : ℕ → Limit → Change
change_at place limit = record { place = place; limit = limit }

-- one more row at least, where as many are allowed
abbrev pub more_at_least : Constraint → List Limit
more_at_least c = if nat_lt c.least c.most then Least (c.least + 1) ∷ [] else []

-- no row at least, where some are
abbrev pub none_at_least : Constraint → List Limit
none_at_least c = if c.least == 0 then [] else Least 0 ∷ []

-- one row fewer at most, where as few are allowed
abbrev pub fewer_at_most : Constraint → List Limit
fewer_at_most c = if nat_lt c.least c.most then Most (c.most - 1) ∷ [] else []

-- one row more at most, where the language has such a number
abbrev pub more_at_most : Constraint → List Limit
more_at_most c = if nat_lt c.most frequency_limit then Most (c.most + 1) ∷ [] else []

-- any values, where some are ruled out
abbrev pub any_values : Schema → Constraint → List Limit
any_values schema c = if is_whole schema c.values then [] else Values ∷ []

unfoldable pub limits_of : Schema → Constraint → List Limit
limits_of schema c = more_at_least c ++ none_at_least c ++ fewer_at_most c ++ more_at_most c ++ any_values schema c

-- those of the constraint at a place
abbrev pub changes_at : Schema → ℕ × Constraint → List Change
changes_at schema entry = map (change_at entry.0) (limits_of schema entry.1)

-- .. where it is the one that is asked of, or all are
abbrev pub is_asked_of : Option ℕ → ℕ → Bool
is_asked_of None place = true
is_asked_of (Some asked) place = place == asked

abbrev pub changes_if : Schema → Option ℕ → ℕ × Constraint → List Change
changes_if schema asked entry = if is_asked_of asked entry.0 then changes_at schema entry else []

-- the changes of all constraints, or of the one at a place, in their order
unfoldable pub changes_of : Schema → List Constraint → Option ℕ → List Change
changes_of schema constraints asked = flat_map (changes_if schema asked) (enumerate_from 0 constraints)

-- ---- what a change makes of constraints

abbrev pub with_limit : Schema → Limit → Constraint → Constraint
with_limit schema (Least least) c = record c { least = least }
with_limit schema (Most most) c = record c { most = most }
with_limit schema Values c = record c { values = whole_region schema }

abbrev pub changed_at : Schema → Change → ℕ × Constraint → Constraint
changed_at schema change entry = if entry.0 == change.place then with_limit schema change.limit entry.1 else entry.1

-- the constraints, of which the one at the change's place has the limit and is else as it was
unfoldable pub changed : Schema → List Constraint → Change → List Constraint
changed schema constraints change = map (changed_at schema change) (enumerate_from 0 constraints)
