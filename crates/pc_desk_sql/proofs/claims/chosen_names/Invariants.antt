use Rattle.std.proofs.Common.{◌≡◌, ◌++◌, drop}
use Rattle.pc_desk_sql.specs.Tests.{chosen_names}
use Rattle.pc_desk_sql.proofs.claims.chosen_names.Given as goal

-- what is listed and what is left are the whole
abbrev pub invariant-loop-place : goal.invariant-loop-place
invariant-loop-place l = l.chosen ++ chosen_names l.bits l.place (drop l.place l.names) ≡ chosen_names l.bits 0 l.names
