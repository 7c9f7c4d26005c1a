use Rattle.std.proofs.Common.{arith}
use Rattle.pc_rows.proofs.Storing.{row_within}
use Rattle.pc_rows.proofs.Removing.{some_row, still_stored, without_row}
use Rattle.pc_rows.proofs.rows.Rows.remove.Goals as goal

pub overflow_mul-at : goal.overflow_mul-at
overflow_mul-at c =
    let within = row_within _ _ _ _ _ c.self.invariant c.self.view_is c.requires.there in
    omega (arith, within, c.self.invariant.short)

pub remove-requires : goal.remove-requires
remove-requires c = record { there = row_within _ _ _ _ _ c.self.invariant c.self.view_is c.requires.there }

pub overflow_sub-self : goal.overflow_sub-self
overflow_sub-self c = some_row _ _ _ _ _ c.self.invariant c.self.view_is c.requires.there

pub invariant_of-self : goal.invariant_of-self
invariant_of-self c = rw c.remove.ensures.removed (still_stored _ _ _ _ _ c.self.invariant c.self.view_is c.requires.there)

pub returns : goal.returns
returns c = record { removed = rw c.remove.ensures.removed (without_row _ _ _ _ _ c.self.invariant c.self.view_is c.requires.there) }
