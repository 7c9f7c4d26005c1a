use Rattle.std.proofs.Common.{◌≡◌, to_z, of_z, arith}
use Rattle.std.specs.Int.{w128}
use Rattle.std.proofs.lemmas.Int.{ints}
use Rattle.pc_quantile.proofs.past.sum_past.Goals as goal

pub returns-in-Low-clause-sum : goal.returns-in-Low-clause-sum
returns-in-Low-clause-sum c =
    let number : to_z w128 (of_z w128 c.args.number) ≡ c.args.number = omega (arith, ints) in
    let same : to_z w128 (of_z w128 c.second_of.result) ≡ c.second_of.result = omega (arith, ints, c.second_of.ensures.small) in
    rw (c.in-Low.is, same) (rw number at c.second_of.ensures.sum)

pub returns-in-High-clause-sum : goal.returns-in-High-clause-sum
returns-in-High-clause-sum c =
    let number : to_z w128 (of_z w128 c.args.number) ≡ c.args.number = omega (arith, ints) in
    let same : to_z w128 (of_z w128 c.first_of.result) ≡ c.first_of.result = omega (arith, ints, c.first_of.ensures.small) in
    rw (c.in-High.is, same) (rw number at c.first_of.ensures.sum)
