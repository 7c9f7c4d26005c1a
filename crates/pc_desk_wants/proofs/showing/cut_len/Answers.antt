use Rattle.std.proofs.Common.{◌≤◌, length, drop, length-drop, arith}
use Rattle.pc_desk_wants.proofs.showing.cut_len.Goals as goal

pub returns-clause-within : goal.returns-clause-within
returns-clause-within c =
    let within : c.rest_len.result ≤ length (drop 200 c.args.text.now) = rw c.after.ensures at c.rest_len.ensures.within in
    omega (arith, within, length-drop 200 c.args.text.now)
