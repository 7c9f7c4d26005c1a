use Rattle.std.proofs.Common.{◌≡◌, None, take}
use Rattle.std.specs.Prelude.{fold}
use Rattle.pc_desk_divide.specs.Pieces.{joined_with}
use Rattle.pc_desk_divide.proofs.hull.hull_of.Given as goal

abbrev pub invariant-loop-region : goal.invariant-loop-region
invariant-loop-region l = l.hull ≡ fold (joined_with l.column) None (take l.region-index l.boxes)
