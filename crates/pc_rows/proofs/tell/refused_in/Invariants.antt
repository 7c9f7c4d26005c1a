use Rattle.std.proofs.Common.{◌≡◌, ◌≤◌, ◌+◌, length}
use Rattle.pc_rows.specs.Told.{refused_in}
use Rattle.pc_rows.proofs.tell.refused_in.Given as goal

-- what is left adds the rest
abbrev pub invariant-loop-fields : goal.invariant-loop-fields
invariant-loop-fields l = record {
  same : refused_in l.columns l.places l.width l.fn.table ≡ l.count + refused_in l.columns l.places l.width l.table;
  few : l.count + length l.table ≤ length l.fn.table;
}

abbrev pub decreases-loop-fields : goal.decreases-loop-fields
decreases-loop-fields l = length l.table
