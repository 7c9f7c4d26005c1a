use Rattle.std.proofs.Common.{◌≡◌, true, All, take}
use Rattle.pc_cells.specs.declared.cells.Cell.{Cell}
use Rattle.pc_agg.proofs.grounds.has_chosen.Given as goal

abbrev pub invariant-loop-cell : goal.invariant-loop-cell
invariant-loop-cell l = All (λ (cell : Cell). cell.chosen ≡ true → ⊥) (take l.cell-index l.cells.cells)
