-- What may be concluded of constraints from history.
use Rattle.std.specs.Prelude.{◌≡◌, ℕ, ℤ, true, List, Option, Some, None}
use Rattle.pc_model.specs.declared.constraint.Constraint.{Constraint}
use Rattle.pc_model.specs.declared.row.Row.{Row}
use Rattle.pc_model.specs.declared.schema.Schema.{Schema}
use Rattle.pc_model.specs.Accepted.{AreConstraints}
use Rattle.pc_model.specs.Membership.{AreDisjoint, in_domain, is_in}
use Rattle.pc_model.specs.Possible.{IsPossible, is_covered}
use Rattle.pc_desk_divide.specs.Reading.{place_of}
use Rattle.pc_desk_history.specs.Periods.{IsPeriod, rows_in, rows_of}
use Rattle.pc_desk_words.specs.Words.{HistoryNames}
use Rattle.pc_desk_past.specs.declared.past.Known.{Known}

-- the column of the periods, if one is named
abbrev pub IsPer : Schema → Option (List ℕ) → Option ℕ → Type 0
IsPer schema None per = per ≡ None
IsPer schema (Some name) per = (column : ℕ) × (place_of schema.columns name ≡ Some column) × (per ≡ Some column)

-- the rows that are meant
abbrev pub meant : Known → List Row
meant known = rows_in known.query.chosen known.rows

-- They are constraints that a file may have, no row is under two of them, and each row that is meant is under one. The rows of each
-- period that is past could be the lost ones, unless a number of lost rows is given.
pub record HoldThePast (known : Known) (names : HistoryNames) (drafted : List Constraint) : Type 0 where
  pub accepted : AreConstraints known.schema drafted
  pub apart : AreDisjoint known.schema drafted
  pub covers : (row : Row) → in_domain known.schema row ≡ true → is_in known.query.chosen row ≡ true → is_covered drafted row ≡ true
  pub history : names.lost ≡ None → (per : Option ℕ) → IsPer known.schema names.per per
      → (period : ℤ) → IsPeriod known.schema per (meant known) period
      → IsPossible known.schema drafted (rows_of per period (meant known))
