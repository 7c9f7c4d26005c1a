use Rattle.std.proofs.Common.{◌≡◌, ◌<◌, get_or, length, pos, ◌+ℤ◌, ◌∙◌, arith, refl}
use Rattle.std.proofs.lemmas.Int.{ints}
use Rattle.pc_program_bound.specs.Bound.{IsFit}
use Rattle.pc_num.proofs.Signed.{passed}
use Rattle.pc_simplex_short.specs.Kept.{IsWithin}
use Rattle.pc_simplex_short.proofs.Mixing.{mix_more, mix_end, mix_small}
use Rattle.pc_simplex_short.proofs.Words.{FitsWord, passed_word}
use Rattle.pc_simplex_short.proofs.narrow.mix.Goals as goal

pub loop-place-preserved : goal.loop-place-preserved
loop-place-preserved c =
    let l = c.loop-place in
    let places = c.args.places.now in
    let numbers = c.args.numbers.now in
    let j = get_or places l.place-index 0 in
    let within : j < length numbers = c.requires.within l.place-index 0 c.loop-place-test.true in
    let number = get_or numbers j (pos 0) in
    let small : IsWithin 55 number = c.requires.small j (pos 0) within in
    let wide : IsFit number = omega (arith, small) in
    let fits : FitsWord number = omega (arith, small) in
    let few = c.requires.few in
    let is : c.narrowed-sum.result ≡ number = c.narrowed-sum.ensures ∙ passed number wide in
    let sum : FitsWord (l.sum +ℤ number) = rw (← l.sum-is) (omega (arith, ints, l.invariant.small, small, few, c.loop-place-test.true)) in
    rw (is, passed_word number fits, l.sum-is, passed_word (l.sum +ℤ number) sum)
    (mix_more 55 places numbers l.sum l.place-index 0 j c.loop-place-test.true refl small (rw l.sum-is at l.invariant))

pub returns-clause-value : goal.returns-clause-value
returns-clause-value c = mix_end 55 c.args.places.now c.args.numbers.now _ c.loop-place.place-index (omega (arith, c.loop-place-test.false)) c.loop-place.invariant

pub returns-clause-small : goal.returns-clause-small
returns-clause-small c =
    let sum = mix_end 55 c.args.places.now c.args.numbers.now _ c.loop-place.place-index (omega (arith, c.loop-place-test.false)) c.loop-place.invariant in
    let size = mix_small 55 c.args.places.now c.args.numbers.now c.requires.within c.requires.small in
    let few = c.requires.few in
    rw sum (omega (arith, size, few))
