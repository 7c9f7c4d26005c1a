use Rattle.std.proofs.Common.{◌≡◌, ◌++◌, drop}
use Rattle.pc_desk_sql.specs.Readings.{placed}
use Rattle.pc_desk_sql.specs.Spelled.{constraint_text}
use Rattle.pc_desk_sql.proofs.statement.line_texts.Given as goal

-- what is listed and what is left are the whole
abbrev pub invariant-loop-place : goal.invariant-loop-place
invariant-loop-place l = l.texts ++ placed (constraint_text l.columns l.constraints) l.place (drop l.place l.constraints) ≡ placed (constraint_text l.columns l.constraints) 0 l.constraints
