use Rattle.std.proofs.Common.{◌<◌, ◌∙◌, length, arith}
use Rattle.pc_frontier.proofs.Orders.{before_limit, read_link}
use Rattle.pc_frontier.proofs.ring.Ring.last.Goals as goal

pub returns : goal.returns
returns c =
    let inside : c.self.inside.limit < length c.self.inside.before.items = omega (arith, c.self.invariant.sized_before) in
    rw (← c.self.view_is) (read_link c.self.inside.before.items c.self.inside.limit c.index.result.now inside c.index.ensures ∙ before_limit _ _ _ _ c.self.invariant)
