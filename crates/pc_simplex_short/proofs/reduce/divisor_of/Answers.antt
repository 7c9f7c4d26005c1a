use Rattle.std.proofs.Common.{◌≡◌, ◌+◌, pos, drop, unsigned_abs, to_z, to_z-of_z, ap, arith}
use Rattle.std.specs.Int.{w128}
use Rattle.pc_num.proofs.Rows.{IsGcdWith, gcd_with_end, gcd_with_one}
use Rattle.pc_num.proofs.Signed.{as_passed, passed}
use Rattle.pc_simplex_tableau.specs.Numbers.{combined}
use Rattle.pc_simplex_tableau.proofs.Places.{length-combined}
use Rattle.pc_simplex_short.proofs.Reducing.{number_is, divisor_more, divisor_is, divisor_is_one}
use Rattle.pc_simplex_short.proofs.reduce.divisor_of.Goals as goal

pub loop-place-preserved : goal.loop-place-preserved
loop-place-preserved c =
    let l = c.loop-place in
    let found = c.common_divisor-divisor.ensures in
    let result = c.common_divisor-divisor.result in
    let value = rw (to_z-of_z c.ranges.p, to_z-of_z c.ranges.t) at c.mixed.ensures.value in
    let number = number_is c.args.p c.args.t c.args.row.now c.args.other.now c.requires.p c.requires.t c.requires.row c.requires.other c.requires.sized
    l.place c.mixed.result c.loop-place-test.true value in
    let kept = rw (to_z-of_z c.ranges.p, to_z-of_z c.ranges.t) at l.invariant.kept in
    rw (to_z-of_z c.ranges.p, to_z-of_z c.ranges.t) (record {
      fits = rw (passed result found.fits) found.fits;
      sign = rw (passed result found.fits) found.sign;
      kept = λ g h. kept g (divisor_more c.args.p c.args.t c.args.row.now c.args.other.now c.requires.p c.requires.t c.requires.row c.requires.other c.requires.sized
          l.place _ g result c.mixed.result c.loop-place-test.true number found.common found.fits h);
    })

pub returns-then-divisor-eq1-clause-value : goal.returns-then-divisor-eq1-clause-value
returns-then-divisor-eq1-clause-value c =
    let l = c.loop-place in
    let found = c.common_divisor-divisor.ensures in
    let result = c.common_divisor-divisor.result in
    let value = rw (to_z-of_z c.ranges.p, to_z-of_z c.ranges.t) at c.mixed.ensures.value in
    let number = number_is c.args.p c.args.t c.args.row.now c.args.other.now c.requires.p c.requires.t c.requires.row c.requires.other c.requires.sized
    l.place c.mixed.result c.loop-place-test.true value in
    let row = combined c.args.p c.args.row.now c.args.t c.args.other.now in
    let one : as_passed result ≡ pos 1 = ap (to_z w128) c.if-divisor-eq1.true in
    let rest : IsGcdWith (unsigned_abs (as_passed result)) (drop (l.place + 1) row) 1 = rw one (gcd_with_one (drop (l.place + 1) row)) in
    let kept = rw (to_z-of_z c.ranges.p, to_z-of_z c.ranges.t) at l.invariant.kept in
    divisor_is_one row (kept 1 (divisor_more c.args.p c.args.t c.args.row.now c.args.other.now c.requires.p c.requires.t c.requires.row c.requires.other c.requires.sized
    l.place _ 1 result c.mixed.result c.loop-place-test.true number found.common found.fits rest))

pub returns-clause-value : goal.returns-clause-value
returns-clause-value c =
    let l = c.loop-place in
    let row = combined c.args.p c.args.row.now c.args.t c.args.other.now in
    let long = length-combined c.args.p c.args.t c.args.row.now c.args.other.now (omega (arith, c.requires.sized)) in
    let kept = rw (to_z-of_z c.ranges.p, to_z-of_z c.ranges.t) at l.invariant.kept in
    divisor_is row _ l.invariant.sign (kept _ (gcd_with_end _ l.place row (omega (arith, c.loop-place-test.false, long))))
