use Rattle.std.proofs.Common.{◌≡◌, ◌++◌, take}
use Rattle.pc_rows.proofs.numbers.extend_narrow.Given as goal

abbrev pub invariant-loop-cell : goal.invariant-loop-cell
invariant-loop-cell l = l.narrow.items ≡ l.fn.narrow.items ++ take l.cell-index l.cells
