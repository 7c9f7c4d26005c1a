use Rattle.std.proofs.Common.{arith}
use Rattle.pc_frontier.proofs.Orders.{number_after, number_inside}
use Rattle.pc_frontier.proofs.ring.Ring.next.Goals as goal

pub index-requires : goal.index-requires
index-requires c =
    let few = number_inside _ _ _ c.self.invariant c.args.self.now c.self.view_is c.args.number c.requires in
    omega (arith, few, c.self.inside.after.ok.0, c.self.invariant.sized_after)

pub returns : goal.returns
returns c = number_after _ _ _ c.self.invariant c.args.self.now c.self.view_is c.args.number c.index.result.now c.requires c.index.ensures
