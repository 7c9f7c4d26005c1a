use Rattle.std.proofs.Common.{arith, ◌≡◌, ap, to_z, of_z}
use Rattle.std.specs.Prelude.{◌+ℤ◌}
use Rattle.std.specs.Int.{w128}
use Rattle.std.proofs.lemmas.Int.{ints, to_z-of_z}
use Rattle.pc_program_bound.specs.declared.running.Running.{Running}
use Rattle.pc_program_bound.proofs.ShortWidths.{short_cells_fit, all_fit}
use Rattle.pc_program_bound.proofs.bound.all_shares.Goals as goal

pub overflow_add-result : goal.overflow_add-result
overflow_add-result c =
    let one : to_z w128 (of_z w128 c.args.first.share) ≡ c.args.first.share = omega (arith, ints) in
    let other : to_z w128 (of_z w128 c.in-Some.share) ≡ c.in-Some.share = omega (arith, ints) in
    rw (one, other) (all_fit c.args.p.now c.args.mult.now c.args.first c.in-Some.share c.requires.program c.requires.sized c.in-Some.ensures.value.0 c.requires.first c.in-Some.ensures.small)

pub returns-in-Some : goal.returns-in-Some
returns-in-Some c =
    let p = c.args.p.now in
    let mult = c.args.mult.now in
    let first = c.args.first in
    let one : to_z w128 (of_z w128 first.share) ≡ first.share = omega (arith, ints) in
    let other : to_z w128 (of_z w128 c.in-Some.share) ≡ c.in-Some.share = omega (arith, ints) in
    let fits = all_fit p mult first c.in-Some.share c.requires.program c.requires.sized c.in-Some.ensures.value.0 c.requires.first c.in-Some.ensures.small in
    let sum = to_z-of_z w128 (first.share +ℤ c.in-Some.share) fits in (
      short_cells_fit p mult first.size c.requires.program c.requires.sized c.in-Some.ensures.value.0 (ap (λ (r : Running). r.size) c.requires.first),
      rw (one, other, sum) (ap (λ x. first.share +ℤ x) c.in-Some.ensures.value.1),
    )
