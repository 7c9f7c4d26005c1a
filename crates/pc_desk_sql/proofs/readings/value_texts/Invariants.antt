use Rattle.std.proofs.Common.{◌≡◌, ◌++◌, drop}
use Rattle.pc_desk_sql.specs.Readings.{value_text, placed}
use Rattle.pc_desk_sql.proofs.readings.value_texts.Given as goal

-- what is listed and what is left are the whole
abbrev pub invariant-loop-place : goal.invariant-loop-place
invariant-loop-place l = l.texts ++ placed value_text l.place (drop l.place l.columns) ≡ placed value_text 0 l.columns
