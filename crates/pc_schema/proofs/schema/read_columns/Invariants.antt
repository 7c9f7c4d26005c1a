use Rattle.std.proofs.Common.{◌≡◌, [], length}
use Rattle.csv.specs.Reading.{default_config, records, strip_bom}
use Rattle.pc_model.specs.WellFormed.{AreColumns}
use Rattle.pc_schema.specs.SchemaFile.{columns_from}
use Rattle.pc_schema.proofs.schema.read_columns.Given as goal

abbrev pub invariant-loop-columns : goal.invariant-loop-columns
invariant-loop-columns l = record {
  gives : columns_from [] (records default_config (strip_bom l.text)) ≡ columns_from l.columns l.table;
  are : AreColumns l.columns;
}

abbrev pub decreases-loop-columns : goal.decreases-loop-columns
decreases-loop-columns l = length l.table
