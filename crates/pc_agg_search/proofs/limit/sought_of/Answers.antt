use Rattle.std.proofs.Common.{◌≡◌, to_z, of_z, arith}
use Rattle.std.specs.Int.{w128}
use Rattle.std.proofs.lemmas.Int.{ints}
use Rattle.pc_agg_search.proofs.Limits.{limit_of_best, limit_of_spent}
use Rattle.pc_agg_search.proofs.limit.sought_of.Goals as goal

pub returns-in-Best-clause-sought : goal.returns-in-Best-clause-sought
returns-in-Best-clause-sought c =
    let same : to_z w128 (of_z w128 c.in-Best.value) ≡ c.in-Best.value = omega (arith, ints) in
    rw same (limit_of_best c.args.program c.args.nodes c.requires.program c.requires.small c.in-Best.counts c.in-Best.value c.in-Best.tree (rw c.in-Best.is at c.requires.outcome))

pub returns-in-Spent-clause-sought : goal.returns-in-Spent-clause-sought
returns-in-Spent-clause-sought c =
    let same : to_z w128 (of_z w128 c.in-Spent.bound) ≡ c.in-Spent.bound = omega (arith, ints) in
    rw same (limit_of_spent c.args.program c.args.nodes c.requires.program c.requires.small c.in-Spent.bound c.in-Spent.found c.in-Spent.tree (rw c.in-Spent.is at c.requires.outcome))
