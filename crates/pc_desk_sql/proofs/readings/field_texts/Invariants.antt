use Rattle.std.proofs.Common.{◌≡◌, ◌++◌, drop}
use Rattle.pc_desk_sql.specs.Readings.{field_text, placed}
use Rattle.pc_desk_sql.proofs.readings.field_texts.Given as goal

-- what is listed and what is left are the whole
abbrev pub invariant-loop-place : goal.invariant-loop-place
invariant-loop-place l = l.texts ++ placed field_text l.place (drop l.place l.columns) ≡ placed field_text 0 l.columns
