use Rattle.std.proofs.Common.{◌≡◌, pos, ◌+ℤ◌, ◌-ℤ◌, ◌*ℤ◌, length, to_z, of_z, refl, arith}
use Rattle.std.specs.Int.{w128}
use Rattle.std.proofs.lemmas.Int.{ints}
use Rattle.pc_quantile.proofs.past.second_of.Goals as goal

pub returns-clause-sum : goal.returns-clause-sum
returns-clause-sum c =
    let past = c.times.result -ℤ c.times-2.result in
    let all = pos (length c.args.seen.now) in
    let number : to_z w128 (of_z w128 c.args.number) ≡ c.args.number = omega (arith, ints) in
    let some : to_z w128 (of_z w128 c.times.result) ≡ c.times.result = omega (arith, ints, c.times.ensures.from, c.times.ensures.upto) in
    let part : to_z w128 (of_z w128 c.times-2.result) ≡ c.times-2.result = omega (arith, ints, c.times-2.ensures.from, c.times-2.ensures.upto) in
    let diff : to_z w128 (of_z w128 past) ≡ past = omega (arith, ints, c.times.ensures.from, c.times.ensures.upto, c.times-2.ensures.from, c.times-2.ensures.upto) in
    let weighed : to_z w128 (of_z w128 (pos 68719476736 *ℤ past)) ≡ pos 68719476736 *ℤ past = omega (arith, ints, c.times.ensures.from, c.times.ensures.upto, c.times-2.ensures.from, c.times-2.ensures.upto) in
    let long : to_z w128 (length c.args.seen.now) ≡ all = omega (arith, ints, c.requires.few) in
    let sum : to_z w128 (of_z w128 ((pos 68719476736 *ℤ past) +ℤ all)) ≡ (pos 68719476736 *ℤ past) +ℤ all =
    omega (arith, ints, c.times.ensures.from, c.times.ensures.upto, c.times-2.ensures.from, c.times-2.ensures.upto, c.requires.few) in
    rw (some, part, diff, weighed, long, sum, c.times.ensures.product, c.times-2.ensures.product, c.count_below.ensures, number) refl
