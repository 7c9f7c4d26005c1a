use Rattle.std.proofs.Common.{◌≡◌, ◌++◌, map, take}
use Rattle.pc_desk_weigh.specs.Changes.{change_at}
use Rattle.pc_desk_weigh.proofs.changes.with_changes.Given as goal

abbrev pub invariant-loop-limit : goal.invariant-loop-limit
invariant-loop-limit l = l.changes ≡ l.fn.changes ++ map (change_at l.fn.place) (take l.limit-index l.fn.limits)
