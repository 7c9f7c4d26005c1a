use Rattle.std.proofs.Common.{arith, inl}
use Rattle.pc_frontier.specs.Rings.{without}
use Rattle.pc_frontier.proofs.Orders.{after_inside, before_inside, listed_as, number_inside, seen_as, taken_order}
use Rattle.pc_frontier.proofs.ring.Ring.remove.Goals as goal

pub index-previous-requires : goal.index-previous-requires
index-previous-requires c =
    let few = number_inside _ _ _ c.self.invariant c.args.self.now c.self.view_is c.args.number c.requires in
    omega (arith, few, c.self.inside.before.ok.0, c.self.invariant.sized_before)

pub index-next-requires : goal.index-next-requires
index-next-requires c =
    let few = number_inside _ _ _ c.self.invariant c.args.self.now c.self.view_is c.args.number c.requires in
    omega (arith, few, c.self.inside.after.ok.0, c.self.invariant.sized_after)

pub index_mut-requires : goal.index_mut-requires
index_mut-requires c =
    let few = before_inside _ _ _ c.self.invariant c.args.self.now c.self.view_is c.args.number c.index-previous.result.now (inl c.requires) c.index-previous.ensures in
    omega (arith, few, c.self.inside.after.ok.0, c.self.invariant.sized_after)

pub index_mut-requires-2 : goal.index_mut-requires-2
index_mut-requires-2 c =
    let few = after_inside _ _ _ c.self.invariant c.args.self.now c.self.view_is c.args.number c.index-next.result.now c.requires c.index-next.ensures in
    omega (arith, few, c.self.inside.before.ok.0, c.self.invariant.sized_before)

pub invariant_of-self : goal.invariant_of-self
invariant_of-self c =
    seen_as _ _ _ _
    (taken_order _ _ _ c.self.invariant c.args.self.now c.self.view_is c.args.number c.index-previous.result.now c.index-next.result.now c.requires c.index-previous.ensures c.index-next.ensures)

pub returns : goal.returns
returns c =
    listed_as _ _ _ c.self.invariant c.args.self.now c.self.view_is _ _ (without c.args.number)
    (taken_order _ _ _ c.self.invariant c.args.self.now c.self.view_is c.args.number c.index-previous.result.now c.index-next.result.now c.requires c.index-previous.ensures c.index-next.ensures)
