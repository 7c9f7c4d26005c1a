use Rattle.std.proofs.Common.{◌≡◌, take}
use Rattle.pc_desk_try.specs.Openings.{openings_in}
use Rattle.pc_desk_try.proofs.opening.openings_of.Given as goal

abbrev pub invariant-loop-cell : goal.invariant-loop-cell
invariant-loop-cell l = l.openings.items ≡ openings_in l.constraints (take l.cell-index l.cells)
