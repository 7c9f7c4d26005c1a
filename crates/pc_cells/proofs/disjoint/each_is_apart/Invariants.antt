use Rattle.std.proofs.Common.{take}
use Rattle.pc_cells.specs.Found.{AreApartFromArea}
use Rattle.pc_cells.proofs.disjoint.each_is_apart.Given as goal

abbrev pub invariant-loop-region : goal.invariant-loop-region
invariant-loop-region l = AreApartFromArea (take l.region-index l.boxes) l.area
