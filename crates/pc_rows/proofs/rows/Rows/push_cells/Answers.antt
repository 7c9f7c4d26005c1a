use Rattle.std.proofs.Common.{◌<◌}
use Rattle.pc_rows.specs.Stored.{row_limit}
use Rattle.pc_rows.proofs.Storing.{length-rows_in, rows_in-push, stored_more}
use Rattle.pc_rows.proofs.rows.Rows.push_cells.Goals as goal

pub invariant_of-self-2 : goal.invariant_of-self-2
invariant_of-self-2 c =
    let alike = rw (← c.self.view_is) at c.requires.alike in
    let few : c.self.inside.count < row_limit = rw (← c.self.view_is, length-rows_in) at c.requires.few in
    rw c.in_ok-extend.ensures.ok (stored_more _ _ _ _ c.self.invariant few alike (rw c.in_ok-extend.ensures.ok at c.extend.ensures.short))

pub returns-clause-ok : goal.returns-clause-ok
returns-clause-ok c =
    let alike = rw (← c.self.view_is) at c.requires.alike in
    rw (c.in_ok-extend.ensures.ok, ← c.self.view_is) (rows_in-push _ _ _ _ c.self.invariant.full alike)
