use Rattle.std.proofs.Common.{arith, to_z, of_z, ◌≡◌, ◌+ℤ◌}
use Rattle.std.specs.Int.{w128}
use Rattle.std.proofs.lemmas.Int.{ints}
use Rattle.pc_program_bound.specs.Bound.{IsFit}
use Rattle.pc_program_bound.proofs.Steps.{passed, running_is}
use Rattle.pc_program_bound.proofs.running.plus.Goals as goal

pub returns-clause-value : goal.returns-clause-value
returns-clause-value c =
    let a : to_z w128 (of_z w128 c.args.running.share) ≡ c.args.running.share = omega (arith, ints) in
    let b : to_z w128 (of_z w128 c.args.running.size) ≡ c.args.running.size = omega (arith, ints) in
    let a2 : to_z w128 (of_z w128 c.args.share) ≡ c.args.share = omega (arith, ints) in
    let b2 : to_z w128 (of_z w128 c.args.size) ≡ c.args.size = omega (arith, ints) in
    let s = c.in_ok-total.ensures in
    let fits : IsFit (c.args.running.size +ℤ c.args.size) = omega (arith, ints, s.0, b, b2) in
    let near = c.requires.around in
    let close = c.requires.within in
    let share_fits : IsFit (c.args.running.share +ℤ c.args.share) = omega (arith, ints, near.low, near.high, close.low, close.high) in
    let total : c.in_ok-total.total ≡ c.args.running.size +ℤ c.args.size = omega (arith, ints, s.1, b, b2) in
    (fits, rw (a, a2) (running_is _ _ _ _ (passed _ share_fits) (rw total (passed _ fits))))
