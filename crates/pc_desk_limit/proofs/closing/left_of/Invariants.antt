use Rattle.std.proofs.Common.{◌≡◌, take}
use Rattle.pc_desk_limit.specs.Closing.{left_of}
use Rattle.pc_desk_limit.proofs.closing.left_of.Given as goal

abbrev pub invariant-loop-other : goal.invariant-loop-other
invariant-loop-other l = l.left ≡ left_of l.fn.boxes (take l.other-index l.others)
