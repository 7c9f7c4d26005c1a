use Rattle.std.proofs.Common.{◌<◌, length, IfSome}
use Rattle.pc_desk_short.proofs.lacks.tightest.Given as goal

-- what is found so far is a place of the list
abbrev pub invariant-loop-place : goal.invariant-loop-place
invariant-loop-place l = IfSome l.found (λ place. place < length l.constraints)
