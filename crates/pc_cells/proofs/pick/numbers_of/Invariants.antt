use Rattle.std.proofs.Common.{take}
use Rattle.std.specs.List.{AllZip}
use Rattle.pc_cells.specs.Lowest.{IsLeastOf}
use Rattle.pc_cells.proofs.pick.numbers_of.Given as goal

abbrev pub invariant-loop-side : goal.invariant-loop-side
invariant-loop-side l = AllZip IsLeastOf (take l.side-index l.sides) l.cells.items
