use Rattle.std.proofs.Common.{All, take}
use Rattle.pc_model.specs.CutTrees.{IsApart}
use Rattle.pc_box.proofs.areas.apart_from_each.Given as goal

abbrev pub invariant-loop-region : goal.invariant-loop-region
invariant-loop-region l = All (IsApart l.part) (take l.region-index l.boxes)
