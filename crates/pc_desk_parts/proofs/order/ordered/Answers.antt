use Rattle.std.proofs.Common.{rules}
use Rattle.pc_desk_parts.proofs.Ordered.{compared}
use Rattle.pc_desk_parts.proofs.order.ordered.Goals as goal

pub returns : goal.returns
returns c =
    let sorted = c.in_ok-sort_by.ensures in
    compared _ _ _ _ sorted.permutation sorted.sorted sorted.stable (λ a r q k. search rules)
