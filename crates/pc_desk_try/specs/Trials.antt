-- What constraints come to over a table.
use Rattle.std.specs.Prelude.{ℕ, ◌+◌, ◌*◌, ◌==◌, ◌&&◌, not, cond, nat_le, Bool, List, map, count_by, codes, Option, Some, None}
use Rattle.std.specs.List.{list_all, position_from}
use Rattle.pc_model.specs.declared.constraint.Constraint.{Constraint}
use Rattle.pc_model.specs.declared.constraint.When.{When}
use Rattle.pc_model.specs.declared.constraint.When.TheVariants.{Boxes, Outside}
use Rattle.pc_model.specs.declared.row.Row.{Row}
use Rattle.pc_model.specs.Membership.{has, is_under}
use Rattle.pc_model.specs.Possible.{is_covered}
use Rattle.pc_desk_try.specs.declared.counts.Counts.{Counts}
use Rattle.pc_desk_try.specs.declared.tried.Trial.{Trial}
use Rattle.pc_desk_try.specs.declared.tried.Tried.{Tried}

-- the record of the first row
abbrev pub first_record : ℕ
first_record = 2

-- a row under a constraint that its values do not have
abbrev pub breaks : List Constraint → Constraint → Row → Bool
breaks constraints c row = is_under constraints c row && not (has c.values row)

-- How many rows are under a constraint, how many of them break it, and the record of the first of these in a file, whose first is
-- the header.
abbrev pub counts_of : List Constraint → Constraint → List Row → Counts
counts_of constraints c rows = record {
  rows = count_by (is_under constraints c) rows;
  broken = count_by (breaks constraints c) rows;
  first = position_from (breaks constraints c) first_record rows;
}

-- under none of them
abbrev pub is_under_none : List Constraint → Row → Bool
is_under_none constraints row = not (is_covered constraints row)

-- how many rows are
abbrev pub under_none : List Constraint → List Row → ℕ
under_none constraints rows = count_by (is_under_none constraints) rows

-- ---- limits

-- the factor of one: factors are in millionths
abbrev pub million : ℕ
million = 1_000_000

-- so many rows, multiplied by the factor, are as many as a constraint allows
abbrev pub is_within : ℕ → Constraint → ℕ → Bool
is_within scale c rows = nat_le (c.least * million) (rows * scale) && nat_le (rows * scale) (c.most * million)

-- ---- a trial

-- the word of the language stands in the place of a name
abbrev pub name_of : When → List ℕ → List ℕ
name_of (Boxes area) name = name
name_of Outside name = codes "outside"

abbrev pub tried_by : ℕ → List Constraint → List Row → Constraint → Tried
tried_by scale constraints rows c = record {
  name = name_of c.when c.name;
  counts = counts_of constraints c rows;
  least = c.least;
  most = c.most;
  within = is_within scale c (count_by (is_under constraints c) rows);
}

abbrev pub tried_each : ℕ → List Constraint → List Row → List Tried
tried_each scale constraints rows = map (tried_by scale constraints rows) constraints

-- each constraint in its order, and the rows of which none speaks
abbrev pub trial_of : ℕ → List Constraint → List Row → Trial
trial_of scale constraints rows = record { each = tried_each scale constraints rows; under_none = under_none constraints rows }

-- no row breaks it, and it speaks of as many as it allows
abbrev pub is_kept_by : Tried → Bool
is_kept_by tried = (tried.counts.broken == 0) && tried.within

abbrev pub is_kept : Trial → Bool
is_kept trial = list_all is_kept_by trial.each

-- ---- one row more

abbrev pub first_with : Bool → ℕ → Option ℕ → Option ℕ
first_with broken number None = cond broken (Some number) None
first_with broken number (Some first) = Some first

abbrev pub counts_with : Bool → Bool → ℕ → Counts → Counts
counts_with under broken number counts = record {
  rows = counts.rows + cond under 1 0;
  broken = counts.broken + cond broken 1 0;
  first = first_with broken number counts.first;
}
