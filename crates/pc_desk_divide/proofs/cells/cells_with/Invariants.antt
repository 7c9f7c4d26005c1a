use Rattle.std.proofs.Common.{◌≡◌, [], ◌∷◌, take}
use Rattle.std.specs.Prelude.{fold}
use Rattle.pc_desk_divide.specs.Cells.{cut_cells}
use Rattle.pc_desk_divide.proofs.cells.cells_with.Given as goal

abbrev pub invariant-loop-parting : goal.invariant-loop-parting
invariant-loop-parting l = l.cells ≡ fold cut_cells (l.fn.chosen ∷ []) (take l.parting-index l.partings)
