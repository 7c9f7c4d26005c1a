use Rattle.std.proofs.Common.{◌≡◌, drop}
use Rattle.csv.specs.Records.{fields_of}
use Rattle.pc_rows.specs.Told.{fields_halt}
use Rattle.pc_rows.proofs.halt.fields_halt.Given as goal

-- what is left decides
abbrev pub invariant-loop-column : goal.invariant-loop-column
invariant-loop-column l = fields_halt 0 l.columns l.places (fields_of l.fields) ≡ fields_halt l.column (drop l.column l.columns) (drop l.column l.places) (fields_of l.fields)
