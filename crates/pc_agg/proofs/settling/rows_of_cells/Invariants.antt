use Rattle.std.proofs.Common.{take}
use Rattle.std.specs.List.{AllZip}
use Rattle.pc_agg.proofs.Filling.{IsIn}
use Rattle.pc_agg.proofs.settling.rows_of_cells.Given as goal

abbrev pub invariant-loop-place : goal.invariant-loop-place
invariant-loop-place l = AllZip IsIn (take l.place l.cells.cells) l.picks
