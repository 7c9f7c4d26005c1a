use Rattle.std.proofs.Common.{◌≡◌, [], length, All}
use Rattle.pc_model.specs.declared.row.Row.{Row}
use Rattle.pc_rows.specs.RowFile.{rows_from}
use Rattle.pc_rows.proofs.read.read_records.Given as goal

abbrev pub invariant-loop-cells : goal.invariant-loop-cells
invariant-loop-cells l = record {
  gives : rows_from l.columns l.places l.width [] l.fn.table ≡ rows_from l.columns l.places l.width l.rows l.table;
  wide : All (λ (other : Row). length other.cells ≡ length l.columns) l.rows;
}

abbrev pub decreases-loop-cells : goal.decreases-loop-cells
decreases-loop-cells l = length l.table
