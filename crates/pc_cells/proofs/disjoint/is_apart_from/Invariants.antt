use Rattle.std.proofs.Common.{take}
use Rattle.pc_cells.specs.Found.{AreApartFrom}
use Rattle.pc_cells.proofs.disjoint.is_apart_from.Given as goal

abbrev pub invariant-loop-other : goal.invariant-loop-other
invariant-loop-other l = AreApartFrom (take l.other-index l.earlier) l.when
