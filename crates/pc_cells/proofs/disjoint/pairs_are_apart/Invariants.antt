use Rattle.std.proofs.Common.{take}
use Rattle.pc_cells.specs.Found.{AreApart}
use Rattle.pc_cells.proofs.disjoint.pairs_are_apart.Given as goal

abbrev pub invariant-loop-place : goal.invariant-loop-place
invariant-loop-place l = AreApart (take l.place l.constraints)
