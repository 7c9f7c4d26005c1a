use Rattle.std.proofs.Common.{◌≡◌, take}
use Rattle.std.specs.List.{filter}
use Rattle.pc_desk_wants.specs.Kinds.{may_come}
use Rattle.pc_desk_wants.proofs.kinds.chosen.Given as goal

abbrev pub invariant-loop-kind : goal.invariant-loop-kind
invariant-loop-kind l = l.chosen ≡ filter (may_come l.want) (take l.kind-index l.kinds)
