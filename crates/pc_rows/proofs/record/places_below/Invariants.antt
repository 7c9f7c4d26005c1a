use Rattle.std.proofs.Common.{◌≡◌, length}
use Rattle.pc_rows.specs.Record.{places_below}
use Rattle.pc_rows.proofs.record.places_below.Given as goal

abbrev pub invariant-loop-place : goal.invariant-loop-place
invariant-loop-place l = record {
  places : l.places ≡ places_below l.place;
  count : length l.places ≡ l.place;
}
