use Rattle.pc_rows.proofs.Storing.{row_wide}
use Rattle.pc_rows.proofs.rows.Rows.row_len.Goals as goal

pub returns : goal.returns
returns c = row_wide _ _ _ _ _ c.self.invariant c.self.view_is c.requires
