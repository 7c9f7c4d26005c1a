use Rattle.std.proofs.Common.{◌≡◌, arith, to_z, of_z}
use Rattle.std.specs.Int.{w128}
use Rattle.std.proofs.lemmas.Int.{ints}
use Rattle.pc_agg.proofs.ends.mark_of.Goals as goal

pub returns-in-None-clause-marked : goal.returns-in-None-clause-marked
returns-in-None-clause-marked c =
    let same : to_z w128 (of_z w128 c.args.limit.now.most) ≡ c.args.limit.now.most = omega (arith, ints) in
    let none = rw c.in-None.is at c.find_worth.ensures in
    rw same at none
