use Rattle.std.proofs.Common.{arith}
use Rattle.pc_frontier.specs.Rings.{placed_before}
use Rattle.pc_frontier.proofs.Orders.{before_inside, listed_as, place_inside, put_order, seen_as}
use Rattle.pc_frontier.proofs.ring.Ring.put_before.Goals as goal

pub index-previous-requires : goal.index-previous-requires
index-previous-requires c =
    let few = place_inside _ _ _ c.self.invariant c.args.self.now c.self.view_is c.args.next c.requires.place in
    omega (arith, few, c.self.inside.before.ok.0, c.self.invariant.sized_before)

pub index_mut-requires : goal.index_mut-requires
index_mut-requires c =
    let few = before_inside _ _ _ c.self.invariant c.args.self.now c.self.view_is c.args.next c.index-previous.result.now c.requires.place c.index-previous.ensures in
    omega (arith, few, c.self.inside.after.ok.0, c.self.invariant.sized_after)

pub index_mut-requires-4 : goal.index_mut-requires-4
index_mut-requires-4 c =
    let few = place_inside _ _ _ c.self.invariant c.args.self.now c.self.view_is c.args.next c.requires.place in
    omega (arith, few, c.self.inside.before.ok.0, c.self.invariant.sized_before)

pub invariant_of-self : goal.invariant_of-self
invariant_of-self c =
    seen_as _ _ _ _
    (put_order _ _ _ c.self.invariant c.args.self.now c.self.view_is c.args.number c.args.next c.index-previous.result.now c.requires.place c.requires.below c.requires.other c.index-previous.ensures)

pub returns : goal.returns
returns c =
    listed_as _ _ _ c.self.invariant c.args.self.now c.self.view_is _ _ (placed_before c.args.next c.args.number)
    (put_order _ _ _ c.self.invariant c.args.self.now c.self.view_is c.args.number c.args.next c.index-previous.result.now c.requires.place c.requires.below c.requires.other c.index-previous.ensures)
