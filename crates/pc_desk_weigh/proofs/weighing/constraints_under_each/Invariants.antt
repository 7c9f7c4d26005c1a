use Rattle.std.proofs.Common.{◌≡◌, map, take}
use Rattle.pc_desk_weigh.specs.Weighed.{constraints_under}
use Rattle.pc_desk_weigh.proofs.weighing.constraints_under_each.Given as goal

abbrev pub invariant-loop-change : goal.invariant-loop-change
invariant-loop-change l = l.lists ≡ map (constraints_under l.fn.schema l.fn.constraints) (take l.change-index l.fn.changes)
