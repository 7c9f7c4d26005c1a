use Rattle.std.proofs.Common.{◌≡◌, ◌++◌, take}
use Rattle.pc_desk_limit.proofs.copies.with_copies.Given as goal

abbrev pub invariant-loop-region : goal.invariant-loop-region
invariant-loop-region l = l.boxes ≡ l.fn.boxes ++ take l.region-index l.regions
