use Rattle.std.proofs.Common.{◌≡◌, ◌≤◌, length}
use Rattle.pc_rows.specs.Told.{told_from}
use Rattle.pc_rows.proofs.tell.tell_records.Given as goal

-- what is left decides
abbrev pub invariant-loop-fields : goal.invariant-loop-fields
invariant-loop-fields l = record {
  same : told_from l.columns l.places l.width 0 l.fn.table ≡ told_from l.columns l.places l.width l.count l.table;
  few : length l.table ≤ length l.fn.table;
}

abbrev pub decreases-loop-fields : goal.decreases-loop-fields
decreases-loop-fields l = length l.table
