use Rattle.std.proofs.Common.{◌≡◌}
use Rattle.pc_desk_try.specs.Beside.{crosses_some}
use Rattle.pc_desk_try.proofs.beside.crosses_some.Given as goal

abbrev pub invariant-loop-other : goal.invariant-loop-other
invariant-loop-other l = l.crosses_one ≡ crosses_some l.openings l.place l.other
