use Rattle.std.proofs.Common.{length}
use Rattle.pc_frontier.specs.Rings.{from_place}
use Rattle.pc_frontier.specs.Frontier.{bound_at}
use Rattle.pc_frontier.proofs.Placing.{IsWalked}
use Rattle.pc_frontier.proofs.frontier.walk.Given as goal

abbrev pub invariant-loop-place : goal.invariant-loop-place
invariant-loop-place l = IsWalked (bound_at l.nodes) l.bound l.opened l.place

abbrev pub decreases-loop-place : goal.decreases-loop-place
decreases-loop-place l = length (from_place l.place l.opened.numbers)
