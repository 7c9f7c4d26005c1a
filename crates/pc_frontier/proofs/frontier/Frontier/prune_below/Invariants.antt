use Rattle.std.proofs.Common.{length}
use Rattle.pc_frontier.proofs.Pruning.{IsPruned}
use Rattle.pc_frontier.proofs.frontier.Frontier.prune_below.Given as goal

abbrev pub invariant-loop-last : goal.invariant-loop-last
invariant-loop-last l = IsPruned l.value l.initial.self l.self l.count

abbrev pub decreases-loop-last : goal.decreases-loop-last
decreases-loop-last l = length l.self.opened
