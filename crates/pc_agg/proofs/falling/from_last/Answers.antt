use Rattle.std.proofs.Common.{◌≡◌, suc, ◌-◌, get_or, pos, to_z, of_z, subst, arith}
use Rattle.std.specs.Int.{w128}
use Rattle.std.proofs.lemmas.Int.{ints}
use Rattle.pc_agg.specs.Falling.{IsFallingFrom}
use Rattle.pc_agg.proofs.FallingSteps.{next_falling, all_falling}
use Rattle.pc_agg.proofs.falling.from_last.Goals as goal

pub loop-place-preserved : goal.loop-place-preserved
loop-place-preserved c =
    let before = c.loop-place.place - 1 in
    let after : c.loop-place.place ≡ suc before = omega (arith, c.loop-place-test.true) in
    let number = get_or c.args.rising.now before (pos 0) in
    let same : to_z w128 (of_z w128 number) ≡ number = omega (arith, ints) in
    next_falling c.args.rising.now before c.loop-place.falling (omega (arith, after, c.loop-place.auto.place)) c.requires.rising
    (subst (λ place. IsFallingFrom c.args.rising.now place c.loop-place.falling) after c.loop-place.invariant)
    c.in_ok-falling.falling (rw same at c.in_ok-falling.ensures)

pub returns : goal.returns
returns c =
    let none : c.loop-place.place ≡ 0 = omega (arith, c.loop-place-test.false) in
    all_falling c.args.rising.now c.loop-place.falling (subst (λ place. IsFallingFrom c.args.rising.now place c.loop-place.falling) none c.loop-place.invariant)
