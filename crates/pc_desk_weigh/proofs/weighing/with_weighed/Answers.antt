use Rattle.std.proofs.Common.{◌≤◌, arith, length}
use Rattle.pc_desk_weigh.proofs.AsAsked.{weighed_past}
use Rattle.pc_desk_weigh.proofs.weighing.with_weighed.Goals as goal

pub returns-in-None : goal.returns-in-None
returns-in-None c =
    let reached = c.in-None.ensures.lookup.3 in
    let place = c.len.ensures in
    let past : length c.args.changes.now ≤ length c.args.all = omega (arith, reached, place) in
    weighed_past c.args.changes.now c.args.entries c.args.all past
