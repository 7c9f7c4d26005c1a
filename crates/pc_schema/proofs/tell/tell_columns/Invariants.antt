use Rattle.std.proofs.Common.{◌≡◌, [], length}
use Rattle.csv.specs.Reading.{default_config, records, strip_bom}
use Rattle.pc_model.specs.WellFormed.{AreColumns}
use Rattle.pc_schema.specs.Told.{told_from}
use Rattle.pc_schema.proofs.tell.tell_columns.Given as goal

-- what is left decides
abbrev pub invariant-loop-columns : goal.invariant-loop-columns
invariant-loop-columns l = record {
  same : told_from [] (records default_config (strip_bom l.text)) ≡ told_from l.columns l.table;
  few : AreColumns l.columns;
}

abbrev pub decreases-loop-columns : goal.decreases-loop-columns
decreases-loop-columns l = length l.table
