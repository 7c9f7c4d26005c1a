use Rattle.pc_rows.proofs.Storing.{no_rows}
use Rattle.pc_rows.proofs.rows.Rows.for_columns.Goals as goal

pub returns : goal.returns
returns c = no_rows _ _
