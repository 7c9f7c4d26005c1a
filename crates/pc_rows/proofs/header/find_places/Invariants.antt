use Rattle.std.proofs.Common.{◌≡◌, [], drop, length}
use Rattle.csv.specs.Records.{fields_of}
use Rattle.pc_rows.specs.RowFile.{places_from}
use Rattle.pc_rows.proofs.header.find_places.Given as goal

abbrev pub invariant-loop-column : goal.invariant-loop-column
invariant-loop-column l = record {
  gives : places_from [] l.columns (fields_of l.header) ≡ places_from l.places (drop l.column-index l.columns) (fields_of l.header);
  count : length l.places ≡ l.column-index;
}
