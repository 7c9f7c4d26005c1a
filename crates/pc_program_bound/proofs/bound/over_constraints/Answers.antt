use Rattle.std.proofs.Common.{arith, pos, ◌≡◌, ap, ◌∙◌, sym, get_or, to_z, of_z}
use Rattle.std.specs.Int.{w128}
use Rattle.std.proofs.lemmas.Int.{ints}
use Rattle.pc_program_bound.specs.Bound.{constraint_size, constraint_share}
use Rattle.pc_program_bound.proofs.Widths.{no_constraints, constraint_step, constraint_stops}
use Rattle.pc_program_bound.proofs.SumBelow.{sum_below-zero}
use Rattle.pc_program_bound.proofs.bound.over_constraints.Goals as goal

pub loop-place-init : goal.loop-place-init
loop-place-init c = record {
  shares = sym (sum_below-zero (constraint_share c.args.p.now c.args.mult.now));
  sizes = sym (sum_below-zero (constraint_size c.args.p.now c.args.mult.now));
  around = record { low = omega (arith, ints); high = omega (arith, ints) };
  fits = no_constraints c.args.p.now c.args.mult.now;
}

pub loop-place-preserved : goal.loop-place-preserved
loop-place-preserved c =
    let place = c.loop-place.place in
    let items = c.as_slice-number-items.result.now in
    let same : to_z w128 (of_z w128 (get_or items place (pos 0))) ≡ get_or items place (pos 0) = omega (arith, ints) in
    let now = c.loop-place.invariant in
    let e = c.in_ok-running.ensures.value in
    let next = constraint_step c.args.p.now c.args.mult.now place c.loop-place.running _ _ _ _
    (same ∙ ap (λ xs. get_or xs place (pos 0)) c.as_slice-number-items.ensures)
    (ap (λ xs. get_or xs place 0) c.as_slice-least.ensures) (ap (λ xs. get_or xs place 0) c.as_slice-most.ensures)
    now.shares now.sizes now.fits e.0 e.1 in
    record { shares = next.0; sizes = next.1; around = c.in_ok-running.ensures.around; fits = next.2 }

pub returns-in_err-running-clause-value : goal.returns-in_err-running-clause-value
returns-in_err-running-clause-value c =
    let place = c.loop-place.place in
    let items = c.as_slice-number-items.result.now in
    let same : to_z w128 (of_z w128 (get_or items place (pos 0))) ≡ get_or items place (pos 0) = omega (arith, ints) in
    let inside = c.loop-place-test.true in
    let long = c.as_slice-number-items.ensures in
    rw c.from_residual.ensures (λ h. c.in_err-running.ensures.value
    (constraint_stops c.args.p.now c.args.mult.now place _ _ _ (same ∙ ap (λ xs. get_or xs place (pos 0)) long)
    (ap (λ xs. get_or xs place 0) c.as_slice-most.ensures) c.loop-place.invariant.sizes
    (let l = rw (long, c.requires.sized) at inside in l) h))
