-- The rows of a list that some of the constraints speak of, where the others are left out.
use Rattle.std.specs.Prelude.{Bool, List, filter}
use Rattle.std.specs.List.{list_any}
use Rattle.pc_model.specs.declared.row.Row.{Row}
use Rattle.pc_model.specs.declared.row.Run.{Run}
use Rattle.pc_model.specs.declared.constraint.Constraint.{Constraint}
use Rattle.pc_model.specs.Membership.{is_under}

-- whether some of the rest speaks of the row, as one of the whole: a row that only those that are left out name is not outside
abbrev pub is_spoken_of : List Constraint → List Constraint → Row → Bool
is_spoken_of whole rest row = list_any (λ (c : Constraint). is_under whole c row) rest

-- the rows that some of the rest speak of
abbrev pub spoken_rows : List Constraint → List Constraint → List Row → List Row
spoken_rows whole rest rows = filter (is_spoken_of whole rest) rows

-- the runs of such rows
abbrev pub spoken_runs : List Constraint → List Constraint → List Run → List Run
spoken_runs whole rest runs = filter (λ (run : Run). is_spoken_of whole rest run.row) runs
