use Rattle.std.proofs.Common.{◌≡◌, take}
use Rattle.pc_desk_limit.specs.Closing.{named_boxes}
use Rattle.pc_desk_limit.proofs.closing.named_boxes.Given as goal

abbrev pub invariant-loop-constraint : goal.invariant-loop-constraint
invariant-loop-constraint l = l.boxes ≡ named_boxes (take l.constraint-index l.constraints)
