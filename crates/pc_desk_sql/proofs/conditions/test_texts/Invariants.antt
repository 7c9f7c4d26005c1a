use Rattle.std.proofs.Common.{◌≡◌, ◌++◌, drop}
use Rattle.pc_desk_sql.specs.Spelled.{test_texts}
use Rattle.pc_desk_sql.specs.Tests.{tests_of}
use Rattle.pc_desk_sql.proofs.conditions.test_texts.Given as goal

-- what is listed and what is left are the whole
abbrev pub invariant-loop-place : goal.invariant-loop-place
invariant-loop-place l = l.texts ++ test_texts (drop l.place l.columns) (tests_of (drop l.place l.columns) (drop l.place l.sides)) ≡ test_texts l.columns (tests_of l.columns l.sides)
