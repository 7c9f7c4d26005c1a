use Rattle.std.proofs.Common.{[], ap}
use Rattle.pc_frontier.specs.Rings.{IsOrder}
use Rattle.pc_frontier.proofs.Orders.{order_none, seen, seen_as}
use Rattle.pc_frontier.proofs.ring.Ring.new.Goals as goal
use Rattle.pc_frontier.proofs.ring.Ring.new.Goals.{In_ok-before}

none : (c : In_ok-before) → IsOrder c.in_ok-after.after.items c.in_ok-before.before.items c.args.limit []
none c =
    order_none _ _ c.args.limit (c.in_ok-after.ensures.items_if_clones_equal (λ y same. same)) (c.in_ok-before.ensures.items_if_clones_equal (λ y same. same))

pub invariant_of-result : goal.invariant_of-result
invariant_of-result c = seen_as _ _ _ _ (none c)

pub returns : goal.returns
returns c = ap (λ xs. record { limit = c.args.limit; numbers = xs }) (seen _ _ _ _ (none c))
