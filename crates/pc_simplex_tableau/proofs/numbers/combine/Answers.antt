use Rattle.std.proofs.Common.{◌≡◌, get_or, pos, ◌-ℤ◌, ◌*ℤ◌, sym, to_z-of_z, arith}
use Rattle.pc_num.proofs.Signed.{as_passed, passed}
use Rattle.pc_simplex_tableau.proofs.Coded.{combined_start, combined_more, combined_stops, combined_end}
use Rattle.pc_simplex_tableau.proofs.numbers.combine.Goals as goal

pub loop-place-init : goal.loop-place-init
loop-place-init c = combined_start _ _ _ _ c.requires.row_fits

pub loop-place-preserved : goal.loop-place-preserved
loop-place-preserved c =
    let l = c.loop-place in
    let a = get_or l.row l.place (pos 0) in
    let b = get_or c.args.other.now l.place (pos 0) in
    let own = passed a (l.invariant.fits l.place (pos 0) (omega (arith, l.auto.row, c.loop-place-test.true))) in
    let others = passed b (c.requires.other_fits l.place (pos 0) (omega (arith, c.requires.sized, c.loop-place-test.true))) in
    let found = rw (own, others) at c.in-Some.ensures in
    let number : as_passed c.in-Some.number ≡ as_passed c.args.p *ℤ a -ℤ as_passed c.args.t *ℤ b = rw found.1 (passed _ found.0.2) in
    combined_more _ _ _ _ l.row l.place (pos 0) (pos 0) c.loop-place-test.true c.requires.sized l.invariant _ found.0 number

pub returns-in-None-clause-value : goal.returns-in-None-clause-value
returns-in-None-clause-value c =
    let l = c.loop-place in
    let a = get_or l.row l.place (pos 0) in
    let b = get_or c.args.other.now l.place (pos 0) in
    let own = passed a (l.invariant.fits l.place (pos 0) (omega (arith, l.auto.row, c.loop-place-test.true))) in
    let others = passed b (c.requires.other_fits l.place (pos 0) (omega (arith, c.requires.sized, c.loop-place-test.true))) in
    let unfit = rw (own, others) at c.in-None.ensures in
    let stopped = combined_stops _ _ _ _ l.row l.place (pos 0) (pos 0) c.loop-place-test.true c.requires.sized l.invariant unfit in
    sym (rw (to_z-of_z c.ranges.p, to_z-of_z c.ranges.t) at stopped)

pub returns-clause-value : goal.returns-clause-value
returns-clause-value c =
    let l = c.loop-place in
    let ended = combined_end _ _ _ _ l.row l.place c.loop-place-test.false c.requires.sized l.invariant in
    sym (rw (to_z-of_z c.ranges.p, to_z-of_z c.ranges.t) at ended.0)

pub returns-clause-combined : goal.returns-clause-combined
returns-clause-combined c true_result =
    let l = c.loop-place in
    let ended = combined_end _ _ _ _ l.row l.place c.loop-place-test.false c.requires.sized l.invariant in
    rw (to_z-of_z c.ranges.p, to_z-of_z c.ranges.t) at ended.1
