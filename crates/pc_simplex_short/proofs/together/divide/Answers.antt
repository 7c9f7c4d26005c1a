use Rattle.std.proofs.Common.{◌≡◌, ◌<◌, length, get_or, pos, arith, to_z-of_z}
use Rattle.std.specs.Int.{int_div_euclid}
use Rattle.pc_num.proofs.Signed.{passed}
use Rattle.pc_program_bound.specs.Bound.{IsFit}
use Rattle.pc_simplex_short.proofs.Made.{made_more}
use Rattle.pc_simplex_short.proofs.together.divide.Goals as goal

pub loop-entry-preserved : goal.loop-entry-preserved
loop-entry-preserved c =
    let l = c.loop-entry in
    let inside : l.entry-index < length l.entries = omega (arith, l.auto.entries, c.loop-entry-test.true) in
    let entry = get_or l.entries l.entry-index (pos 0) in
    let fits : IsFit entry = l.invariant.kept l.entry-index (pos 0) inside in
    let made = c.quotient.ensures in
    let value : c.quotient.result ≡ int_div_euclid entry c.args.divisor = rw (passed entry fits, to_z-of_z c.ranges.divisor) at made.value in
    let before = rw (to_z-of_z c.ranges.divisor) at l.invariant in
    rw (to_z-of_z c.ranges.divisor, passed c.quotient.result made.fits)
    (made_more (λ a. int_div_euclid a c.args.divisor) IsFit c.args.entries.now l.entries l.entry-index (pos 0) c.quotient.result c.loop-entry-test.true inside before value made.fits)
