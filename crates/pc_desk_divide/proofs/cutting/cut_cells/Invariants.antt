use Rattle.std.proofs.Common.{◌≡◌, take}
use Rattle.pc_desk_divide.specs.Cells.{cut_cells}
use Rattle.pc_desk_divide.proofs.cutting.cut_cells.Given as goal

abbrev pub invariant-loop-cell : goal.invariant-loop-cell
invariant-loop-cell l = l.new ≡ cut_cells (take l.cell-index l.fn.cells) l.fn.parting
