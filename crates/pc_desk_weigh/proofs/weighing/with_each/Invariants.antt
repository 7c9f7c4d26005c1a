use Rattle.std.proofs.Common.{◌≡◌, ◌++◌, Some, map, take}
use Rattle.pc_desk_weigh.proofs.weighing.with_each.Given as goal

abbrev pub invariant-loop-change : goal.invariant-loop-change
invariant-loop-change l = l.all ≡ l.fn.all ++ map Some (take l.change-index l.fn.changes)
