use Rattle.std.proofs.Common.{◌≡◌}
use Rattle.pc_branch.specs.Steps.{budget_of, IsAt}
use Rattle.pc_branch.proofs.solving.go_on.Given as goal

abbrev pub invariant-loop-hand : goal.invariant-loop-hand
invariant-loop-hand l = record { at : IsAt l.p l.search l.hand; budget : budget_of l.search ≡ budget_of l.fn.search }

abbrev pub decreases-loop-hand : goal.decreases-loop-hand
decreases-loop-hand l = l.search.frontier.room
