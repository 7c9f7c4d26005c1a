use Rattle.std.proofs.Common.{◌≡◌, ◌<◌, ◌-ℤ◌, ◌*ℤ◌, pos, get_or, length, to_z-of_z, arith}
use Rattle.std.specs.Int.{int_div_euclid}
use Rattle.pc_num.proofs.Signed.{passed}
use Rattle.pc_simplex_short.specs.Kept.{IsWithin}
use Rattle.pc_simplex_short.proofs.Reducing.{reduced_start, reduced_more, reduced_end, reduced_small}
use Rattle.pc_simplex_short.proofs.Words.{FitsWord, passed_word}
use Rattle.pc_simplex_short.proofs.reduce.put_divided.Goals as goal

pub loop-place-init : goal.loop-place-init
loop-place-init c = reduced_start _ _ _ _ _ c.requires.row

pub loop-place-preserved : goal.loop-place-preserved
loop-place-preserved c =
    let l = c.loop-place in
    let p = c.args.p in
    let t = c.args.t in
    let old = c.args.row.now in
    let other = c.args.other.now in
    let a = get_or l.row l.place (pos 0) in
    let b = get_or other l.place (pos 0) in
    let within : l.place < length old = c.loop-place-test.true in
    let made = rw (to_z-of_z c.ranges.p, to_z-of_z c.ranges.t, to_z-of_z c.ranges.divisor) at l.invariant in
    let own : IsWithin 50 a = made.small l.place (pos 0) (omega (arith, l.auto.row, within)) in
    let others : IsWithin 50 b = c.requires.other l.place (pos 0) (omega (arith, c.requires.sized, within)) in
    let a_fits : FitsWord a = omega (arith, own) in
    let b_fits : FitsWord b = omega (arith, others) in
    let number : c.mixed.result ≡ p *ℤ a -ℤ t *ℤ b =
    rw (to_z-of_z c.ranges.p, to_z-of_z c.ranges.t, passed_word a a_fits, passed_word b b_fits) at c.mixed.ensures.value in
    let found = c.in-Some.ensures in
    let quotient : c.in-Some.number ≡ int_div_euclid (p *ℤ a -ℤ t *ℤ b) c.args.divisor =
    rw (passed c.mixed.result c.mixed.ensures.fits, to_z-of_z c.ranges.divisor, number) at found.value in
    let small : IsWithin 50 c.in-Some.number = found.small in
    let fits : FitsWord c.in-Some.number = omega (arith, small) in
    rw (to_z-of_z c.ranges.p, to_z-of_z c.ranges.t, to_z-of_z c.ranges.divisor, passed_word c.in-Some.number fits)
    (reduced_more p t c.args.divisor old other l.row l.place (pos 0) (pos 0) within c.requires.sized made c.in-Some.number quotient small)

pub returns-clause-divided : goal.returns-clause-divided
returns-clause-divided c true_result =
    let l = c.loop-place in
    let made = rw (to_z-of_z c.ranges.p, to_z-of_z c.ranges.t, to_z-of_z c.ranges.divisor) at l.invariant in
    reduced_end c.args.p c.args.t c.args.divisor c.args.row.now c.args.other.now l.row l.place c.loop-place-test.false c.requires.sized made

pub returns-in-None-clause-given : goal.returns-in-None-clause-given
returns-in-None-clause-given c all =
    let l = c.loop-place in
    let p = c.args.p in
    let t = c.args.t in
    let old = c.args.row.now in
    let other = c.args.other.now in
    let a = get_or l.row l.place (pos 0) in
    let b = get_or other l.place (pos 0) in
    let within : l.place < length old = c.loop-place-test.true in
    let made = rw (to_z-of_z c.ranges.p, to_z-of_z c.ranges.t, to_z-of_z c.ranges.divisor) at l.invariant in
    let own : IsWithin 50 a = made.small l.place (pos 0) (omega (arith, l.auto.row, within)) in
    let others : IsWithin 50 b = c.requires.other l.place (pos 0) (omega (arith, c.requires.sized, within)) in
    let a_fits : FitsWord a = omega (arith, own) in
    let b_fits : FitsWord b = omega (arith, others) in
    let number : c.mixed.result ≡ p *ℤ a -ℤ t *ℤ b =
    rw (to_z-of_z c.ranges.p, to_z-of_z c.ranges.t, passed_word a a_fits, passed_word b b_fits) at c.mixed.ensures.value in
    let given = rw (passed c.mixed.result c.mixed.ensures.fits, to_z-of_z c.ranges.divisor, number) at c.in-None.ensures.given in
    given (reduced_small p t c.args.divisor old other l.row l.place within c.requires.sized made all)
