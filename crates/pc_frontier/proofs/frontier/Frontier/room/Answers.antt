use Rattle.std.proofs.Common.{subst}
use Rattle.pc_frontier.specs.Frontier.{IsKept}
use Rattle.pc_frontier.proofs.Sound.{is_kept}
use Rattle.pc_frontier.proofs.frontier.Frontier.room.Goals as goal

pub returns-clause-kept : goal.returns-clause-kept
returns-clause-kept c = subst IsKept c.self.view_is (is_kept _ _ c.self.inside.nodes.items c.self.inside.opened.numbers c.self.invariant _ c.limit.ensures.listed.once)
