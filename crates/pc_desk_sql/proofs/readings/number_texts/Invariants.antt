use Rattle.std.proofs.Common.{◌≡◌, ◌++◌, drop}
use Rattle.pc_desk_sql.specs.Readings.{number_of_column, placed}
use Rattle.pc_desk_sql.proofs.readings.number_texts.Given as goal

-- what is listed and what is left are the whole
abbrev pub invariant-loop-place : goal.invariant-loop-place
invariant-loop-place l = l.texts ++ placed number_of_column l.place (drop l.place l.columns) ≡ placed number_of_column 0 l.columns
