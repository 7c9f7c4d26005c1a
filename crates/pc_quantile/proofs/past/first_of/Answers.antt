use Rattle.std.proofs.Common.{◌≡◌, ◌-ℤ◌, to_z, of_z, refl, arith}
use Rattle.std.specs.Int.{w128}
use Rattle.std.proofs.lemmas.Int.{ints}
use Rattle.pc_quantile.proofs.past.first_of.Goals as goal

pub returns-clause-sum : goal.returns-clause-sum
returns-clause-sum c =
    let number : to_z w128 (of_z w128 c.args.number) ≡ c.args.number = omega (arith, ints) in
    let all : to_z w128 (of_z w128 c.times.result) ≡ c.times.result = omega (arith, ints, c.times.ensures.from, c.times.ensures.upto) in
    let part : to_z w128 (of_z w128 c.times-2.result) ≡ c.times-2.result = omega (arith, ints, c.times-2.ensures.from, c.times-2.ensures.upto) in
    let sum : to_z w128 (of_z w128 (c.times.result -ℤ c.times-2.result)) ≡ c.times.result -ℤ c.times-2.result =
    omega (arith, ints, c.times.ensures.from, c.times.ensures.upto, c.times-2.ensures.from, c.times-2.ensures.upto) in
    rw (all, part, sum, c.times.ensures.product, c.times-2.ensures.product, c.count_upto.ensures, number) refl
