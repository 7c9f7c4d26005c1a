use Rattle.std.proofs.Common.{◌≡◌}
use Rattle.pc_desk_try.specs.Beside.{truths_below}
use Rattle.pc_desk_try.proofs.beside.truths_for.Given as goal

abbrev pub invariant-loop-place : goal.invariant-loop-place
invariant-loop-place l = l.truths.items ≡ truths_below l.openings l.count l.place
