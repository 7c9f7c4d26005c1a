use Rattle.std.proofs.Common.{◌≡◌, [], drop, length}
use Rattle.csv.specs.Records.{fields_of}
use Rattle.pc_rows.specs.RowFile.{cells_from}
use Rattle.pc_rows.proofs.read.fill_cells.Given as goal

abbrev pub invariant-loop-place : goal.invariant-loop-place
invariant-loop-place l = record {
  gives : cells_from [] l.columns l.places (fields_of l.fields) ≡ cells_from l.cells (drop l.place l.columns) (drop l.place l.places) (fields_of l.fields);
  count : length l.cells ≡ l.place;
}
