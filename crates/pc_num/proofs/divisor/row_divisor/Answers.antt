use Rattle.std.proofs.Common.{◌≡◌, ◌+◌, pos, drop, unsigned_abs, to_z, ap}
use Rattle.std.specs.Int.{w128}
use Rattle.pc_num.proofs.Signed.{as_passed, passed}
use Rattle.pc_num.proofs.Rows.{IsGcdWith, gcd_with_end, gcd_with_one, row_gcd_step}
use Rattle.pc_num.proofs.divisor.row_divisor.Goals as goal

pub loop-entry-preserved : goal.loop-entry-preserved
loop-entry-preserved c =
    let l = c.loop-entry in
    let found = c.gcd-divisor.ensures in
    record {
      fits = rw (passed c.gcd-divisor.result found.fits) found.fits;
      sign = rw (passed c.gcd-divisor.result found.fits) found.sign;
      kept = λ g h. l.invariant.kept g (row_gcd_step c.args.row.now l.entry-index _ c.gcd-divisor.result c.loop-entry-test.true c.requires found.common found.fits g h);
    }

pub returns-then-divisor-eq1-clause-common : goal.returns-then-divisor-eq1-clause-common
returns-then-divisor-eq1-clause-common c =
    let l = c.loop-entry in
    let found = c.gcd-divisor.ensures in
    let one : as_passed c.gcd-divisor.result ≡ pos 1 = ap (to_z w128) c.if-divisor-eq1.true in
    let rest : IsGcdWith (unsigned_abs (as_passed c.gcd-divisor.result)) (drop (l.entry-index + 1) c.args.row.now) 1 = rw one (gcd_with_one (drop (l.entry-index + 1) c.args.row.now)) in
    l.invariant.kept 1 (row_gcd_step c.args.row.now l.entry-index _ c.gcd-divisor.result c.loop-entry-test.true c.requires found.common found.fits 1 rest)

pub returns-clause-common : goal.returns-clause-common
returns-clause-common c = c.loop-entry.invariant.kept _ (gcd_with_end _ c.loop-entry.entry-index c.args.row.now c.loop-entry-test.false)
