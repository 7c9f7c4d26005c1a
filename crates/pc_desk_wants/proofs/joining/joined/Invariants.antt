use Rattle.std.proofs.Common.{◌≡◌, ◌++◌, drop}
use Rattle.pc_desk_wants.specs.Joined.{joined}
use Rattle.pc_desk_wants.proofs.joining.joined.Given as goal

-- what is left decides
abbrev pub invariant-loop-place : goal.invariant-loop-place
invariant-loop-place l = l.out.items ++ joined l.last (drop l.place l.texts) ≡ joined l.last l.texts
