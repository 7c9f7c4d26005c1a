use Rattle.std.proofs.Common.{arith, ◌≡◌, to_z, of_z, get_or, pos, refl}
use Rattle.std.specs.Int.{w128}
use Rattle.std.proofs.lemmas.Int.{ints}
use Rattle.std.proofs.lemmas.List.{take_all}
use Rattle.std.proofs.lemmas.List.Elements.{All-more}
use Rattle.pc_num.specs.Signs.{Fits}
use Rattle.pc_num.proofs.fit.are_fit.Goals as goal

pub loop-number-preserved : goal.loop-number-preserved
loop-number-preserved c =
    let numbers = c.args.numbers.now in
    let place = c.loop-number.number-index in
    let same : to_z w128 (of_z w128 (get_or numbers place (pos 0))) ≡ get_or numbers place (pos 0) = omega (arith, ints) in
    All-more Fits numbers place (pos 0) (omega (arith, c.loop-number-test.true)) c.loop-number.invariant (let fits = c.is_fit.ensures.0 c.if-not-is_fit.false in rw same at fits)

pub returns : goal.returns
returns c = (λ t. rw (take_all c.loop-number.number-index c.args.numbers.now (omega (arith, c.loop-number-test.false))) at c.loop-number.invariant, λ fits. refl)
