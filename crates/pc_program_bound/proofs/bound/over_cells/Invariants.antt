use Rattle.std.proofs.Common.{◌≡◌, ◌+ℤ◌}
use Rattle.pc_program_bound.specs.Sums.{sum_below}
use Rattle.pc_program_bound.specs.Bound.{cell_share, cell_size}
use Rattle.pc_program_bound.specs.Parts.{IsAround, AreFitCells}
use Rattle.pc_program_bound.proofs.bound.over_cells.Given as goal

-- the sums so far
abbrev pub invariant-loop-cell : goal.invariant-loop-cell
invariant-loop-cell l = record {
  shares : l.running.share ≡ l.fn.first.share +ℤ sum_below l.cell (cell_share l.p l.floor l.cap l.mult);
  sizes : l.running.size ≡ l.fn.first.size +ℤ sum_below l.cell (cell_size l.p l.mult);
  around : IsAround l.running.share l.running.size;
  fits : AreFitCells l.p l.mult l.fn.first.size l.cell;
}
