use Rattle.std.proofs.Common.{◌≡◌, drop}
use Rattle.csv.specs.Records.{fields_of}
use Rattle.pc_rows.specs.RowFile.{place_from}
use Rattle.pc_desk_schema.proofs.column.place_from.Given as goal

abbrev pub invariant-loop-place : goal.invariant-loop-place
invariant-loop-place l = place_from l.start l.name (drop l.start (fields_of l.header)) ≡ place_from l.place l.name (drop l.place (fields_of l.header))
