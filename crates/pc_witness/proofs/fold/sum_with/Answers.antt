use Rattle.std.proofs.Common.{◌≡◌, pos, ◌+ℤ◌, ◌*ℤ◌, to_z, of_z, arith}
use Rattle.std.specs.Int.{w128}
use Rattle.std.proofs.lemmas.Int.{ints}
use Rattle.pc_program_bound.proofs.Steps.{passed}
use Rattle.pc_witness.proofs.RunSums.{product_is_small, sum_is_small}
use Rattle.pc_witness.proofs.fold.sum_with.Goals as goal

pub returns-clause-sum : goal.returns-clause-sum
returns-clause-sum c =
    let old : to_z w128 (of_z w128 c.args.folded.sum) ≡ c.args.folded.sum = omega (arith, ints) in
    let number : to_z w128 (of_z w128 c.from.result) ≡ c.args.number = omega (arith, ints, c.from.ensures) in
    let times : to_z w128 (of_z w128 c.from-2.result) ≡ pos c.args.times = omega (arith, ints, c.from-2.ensures) in
    let within = product_is_small c.args.number c.args.times (omega (arith, ints)) in
    let all = sum_is_small c.args.folded.sum c.args.number c.args.folded.count c.args.times c.requires.small (omega (arith, ints)) in
    let product = passed (c.args.number *ℤ pos c.args.times) (omega (arith, ints, within, c.requires.few)) in
    let sum = passed (c.args.folded.sum +ℤ (c.args.number *ℤ pos c.args.times)) (omega (arith, ints, all, c.requires.few)) in
    rw (old, number, times, product) sum

pub returns-clause-small : goal.returns-clause-small
returns-clause-small c =
    let all = sum_is_small c.args.folded.sum c.args.number c.args.folded.count c.args.times c.requires.small (omega (arith, ints)) in
    rw (returns-clause-sum c) all
