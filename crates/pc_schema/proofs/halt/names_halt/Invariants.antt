use Rattle.std.proofs.Common.{◌≡◌, [], drop}
use Rattle.csv.specs.Records.{fields_of}
use Rattle.pc_schema.specs.Told.{names_halt}
use Rattle.pc_schema.proofs.halt.names_halt.Given as goal

-- what is left decides
abbrev pub invariant-loop-place : goal.invariant-loop-place
invariant-loop-place l = names_halt [] 2 (drop 2 (fields_of l.row)) ≡ names_halt l.names l.place (drop l.place (fields_of l.row))
