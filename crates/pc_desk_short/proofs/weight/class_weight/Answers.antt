use Rattle.std.proofs.Common.{arith, rules, ◌≡◌, ◌+◌, ◌≤◌, pos, ◌+ℤ◌, get_or, to_z, of_z}
use Rattle.std.specs.Int.{w128}
use Rattle.std.proofs.lemmas.Int.{ints}
use Rattle.pc_num.proofs.Signed.{passed}
use Rattle.pc_program_bound.specs.Parts.{taken}
use Rattle.pc_program_bound.specs.Sums.{sum_below}
use Rattle.pc_program_bound.proofs.SumBelow.{sum_below-zero, sum_below-more}
use Rattle.pc_desk_short.proofs.Weights.{sum_fits}
use Rattle.pc_desk_short.proofs.weight.class_weight.Goals as goal

pub loop-place-init : goal.loop-place-init
loop-place-init c = rw (sum_below-zero (taken c.args.mask c.args.weights.now)) (search rules)

pub overflow_add-total : goal.overflow_add-total
overflow_add-total c =
    let place = c.loop-place.place in
    let f = taken c.args.mask c.args.weights.now in
    let read : to_z w128 (of_z w128 (get_or c.args.weights.now place (pos 0))) ≡ get_or c.args.weights.now place (pos 0) = omega (arith, ints) in
    let part = rw read at c.taken-total.ensures in
    let same : to_z w128 (of_z w128 c.taken-total.result) ≡ c.taken-total.result = omega (arith, ints) in
    let few : place + 1 ≤ 20 = omega (arith, c.loop-place-test.true, c.requires.few) in
    let fits = sum_fits c.args.mask c.args.weights.now c.requires.small (place + 1) few in
    omega (arith, ints, same, part, fits, c.loop-place.invariant, sum_below-more place f)

pub loop-place-preserved : goal.loop-place-preserved
loop-place-preserved c =
    let place = c.loop-place.place in
    let f = taken c.args.mask c.args.weights.now in
    let read : to_z w128 (of_z w128 (get_or c.args.weights.now place (pos 0))) ≡ get_or c.args.weights.now place (pos 0) = omega (arith, ints) in
    let part = rw read at c.taken-total.ensures in
    let same : to_z w128 (of_z w128 c.taken-total.result) ≡ c.taken-total.result = omega (arith, ints) in
    let few : place + 1 ≤ 20 = omega (arith, c.loop-place-test.true, c.requires.few) in
    let fits = sum_fits c.args.mask c.args.weights.now c.requires.small (place + 1) few in
    let value : to_z w128 c.loop-place.total-bits +ℤ to_z w128 (of_z w128 c.taken-total.result) ≡ sum_below (place + 1) f = omega (arith, ints, same, part, c.loop-place.invariant, sum_below-more place f) in
    rw value (passed (sum_below (place + 1) f) fits)
