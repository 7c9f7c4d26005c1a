use Rattle.std.proofs.Common.{sym}
use Rattle.pc_rows.proofs.Storing.{length-rows_in}
use Rattle.pc_rows.proofs.rows.Rows.count.Goals as goal

pub returns-clause-counted : goal.returns-clause-counted
returns-clause-counted c = rw (← c.self.view_is) (sym (length-rows_in _ _ _))
