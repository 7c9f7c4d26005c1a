use Rattle.std.proofs.Common.{◌≡◌, take}
use Rattle.pc_desk_limit.specs.Closing.{opened_boxes}
use Rattle.pc_desk_limit.proofs.closing.opened_boxes.Given as goal

abbrev pub invariant-loop-limit : goal.invariant-loop-limit
invariant-loop-limit l = l.boxes ≡ opened_boxes (take l.limit-index l.limits)
