use Rattle.std.proofs.Common.{◌≡◌, [], take}
use Rattle.std.specs.Prelude.{fold}
use Rattle.pc_desk_limit.specs.Closing.{with_box}
use Rattle.pc_desk_limit.proofs.closing.closed.Given as goal

abbrev pub invariant-loop-region : goal.invariant-loop-region
invariant-loop-region l = l.closed ≡ fold (with_box l.named) [] (take l.region-index l.opened)
