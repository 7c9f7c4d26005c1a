use Rattle.std.proofs.Common.{◌≡◌, drop}
use Rattle.csv.specs.Records.{fields_of}
use Rattle.pc_rows.specs.Told.{names_halt}
use Rattle.pc_rows.proofs.halt.names_halt.Given as goal

-- what is left decides
abbrev pub invariant-loop-place : goal.invariant-loop-place
invariant-loop-place l = names_halt 0 l.columns (fields_of l.header) ≡ names_halt l.place (drop l.place l.columns) (fields_of l.header)
