use Rattle.std.proofs.Common.{◌≡◌, take}
use Rattle.pc_desk_limit.specs.Closing.{without}
use Rattle.pc_desk_limit.proofs.closing.without.Given as goal

abbrev pub invariant-loop-region : goal.invariant-loop-region
invariant-loop-region l = l.left ≡ without (take l.region-index l.boxes) l.other
