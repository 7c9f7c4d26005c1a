use Rattle.std.proofs.Common.{◌≡◌, [], ◌+◌, length, drop}
use Rattle.csv.specs.Records.{fields_of}
use Rattle.pc_model.specs.WellFormed.{AreNames}
use Rattle.pc_schema.specs.SchemaFile.{names_from}
use Rattle.pc_schema.proofs.kind.read_names.Given as goal

abbrev pub invariant-loop-place : goal.invariant-loop-place
invariant-loop-place l = record {
  gives : names_from [] (drop 2 (fields_of l.row)) ≡ names_from l.names (drop l.place (fields_of l.row));
  own : AreNames l.names;
  count : length l.names + 2 ≡ l.place;
}
