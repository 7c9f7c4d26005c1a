use Rattle.std.proofs.Common.{arith, rules, ◌≡◌, ◌+ℤ◌, to_z, of_z, get_or, pos}
use Rattle.std.specs.Int.{w128}
use Rattle.std.proofs.lemmas.Int.{ints}
use Rattle.pc_program_bound.specs.Sums.{sum_below}
use Rattle.pc_program_bound.specs.Bound.{IsFit}
use Rattle.pc_program_bound.specs.Parts.{taken}
use Rattle.pc_program_bound.proofs.Steps.{no_sums_fit, more_sums_fit, next_sum_fits, passed}
use Rattle.pc_program_bound.proofs.SumBelow.{sum_below-zero, sum_below-more}
use Rattle.pc_program_bound.proofs.left.given.Goals as goal

pub loop-place-init : goal.loop-place-init
loop-place-init c = record { summed = rw (sum_below-zero (taken c.args.mask c.args.by.now)) (search rules); fits = no_sums_fit _ }

pub loop-place-preserved : goal.loop-place-preserved
loop-place-preserved c =
    let f = taken c.args.mask c.args.by.now in
    let place = c.loop-place.place in
    let read : to_z w128 (of_z w128 (get_or c.args.by.now place (pos 0))) ≡ get_or c.args.by.now place (pos 0) = omega (arith, ints) in
    let part = rw read at c.part.ensures in
    let same : to_z w128 (of_z w128 c.part.result) ≡ c.part.result = omega (arith, ints) in
    let s = c.in_ok-given.ensures in
    let fits : IsFit (sum_below place f +ℤ f place) = omega (arith, ints, s.0, same, part, c.loop-place.invariant.summed) in
    let value : c.in_ok-given.given ≡ sum_below place f +ℤ f place = omega (arith, ints, s.1, same, part, c.loop-place.invariant.summed) in
    record { summed = rw (value, sum_below-more place f) (passed _ fits); fits = more_sums_fit f place c.loop-place.invariant.fits fits }

pub returns-in_err-given : goal.returns-in_err-given
returns-in_err-given c =
    let f = taken c.args.mask c.args.by.now in
    let place = c.loop-place.place in
    let read : to_z w128 (of_z w128 (get_or c.args.by.now place (pos 0))) ≡ get_or c.args.by.now place (pos 0) = omega (arith, ints) in
    let part = rw read at c.part.ensures in
    let same : to_z w128 (of_z w128 c.part.result) ≡ c.part.result = omega (arith, ints) in
    rw c.from_residual.ensures (λ h. let next = next_sum_fits f place _ c.loop-place-test.true h in c.in_err-given.ensures (omega (arith, ints, next, same, part, c.loop-place.invariant.summed)))
