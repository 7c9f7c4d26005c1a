use Rattle.std.proofs.Common.{◌≡◌, arith}
use Rattle.pc_program.proofs.members.gather.Goals as goal

pub returns : goal.returns
returns c = let past : c.loop-cell.cell ≡ c.len-cell-end.result = omega (arith, c.loop-cell-test.false, c.loop-cell.auto.cell-end) in rw c.len-cell-end.ensures at (rw past at c.loop-cell.invariant)
