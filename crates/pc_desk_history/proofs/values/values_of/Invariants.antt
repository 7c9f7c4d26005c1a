use Rattle.std.proofs.Common.{◌≡◌, ◌++◌, drop}
use Rattle.pc_desk_history.specs.Draft.{sides_from}
use Rattle.pc_desk_history.specs.Periods.{rows_in}
use Rattle.pc_desk_history.proofs.values.values_of.Given as goal

abbrev pub invariant-loop-column : goal.invariant-loop-column
invariant-loop-column l =
    l.sides ++ sides_from l.wish (rows_in l.cell l.rows) l.column (drop l.column l.columns) ≡ sides_from l.wish (rows_in l.cell l.rows) 0 l.columns
