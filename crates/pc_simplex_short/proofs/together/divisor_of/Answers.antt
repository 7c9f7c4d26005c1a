use Rattle.std.proofs.Common.{◌≡◌, ◌∷◌, pos, drop, unsigned_abs, to_z, ap, to_z-of_z}
use Rattle.std.specs.Int.{w128}
use Rattle.pc_num.proofs.Rows.{IsGcdWith, gcd_with_end, gcd_with_one, row_gcd_step}
use Rattle.pc_num.proofs.Signed.{passed}
use Rattle.pc_simplex_short.proofs.Reducing.{divisor_is, divisor_is_one}
use Rattle.pc_simplex_short.proofs.Sharing.{divisor_start}
use Rattle.pc_simplex_short.proofs.together.divisor_of.Goals as goal

pub loop-entry-init : goal.loop-entry-init
loop-entry-init c =
    let found = c.common_divisor-divisor.ensures in
    let result = c.common_divisor-divisor.result in
    rw (to_z-of_z c.ranges.weight) (record {
      fits = rw (passed result found.fits) found.fits;
      sign = rw (passed result found.fits) found.sign;
      kept = λ g h. divisor_start c.args.weight c.args.entries.now c.requires.weight c.requires.entries result g found.common found.fits h;
    })

pub loop-entry-preserved : goal.loop-entry-preserved
loop-entry-preserved c =
    let l = c.loop-entry in
    let found = c.common_divisor-divisor-in-loop-entry.ensures in
    let result = c.common_divisor-divisor-in-loop-entry.result in
    record {
      fits = rw (passed result found.fits) found.fits;
      sign = rw (passed result found.fits) found.sign;
      kept = λ g h. l.invariant.kept g (row_gcd_step c.args.entries.now l.entry-index _ result c.loop-entry-test.true c.requires.entries found.common found.fits g h);
    }

pub returns-then-divisor-eq1-clause-value : goal.returns-then-divisor-eq1-clause-value
returns-then-divisor-eq1-clause-value c =
    let l = c.loop-entry in
    let row = c.args.weight ∷ c.args.entries.now in
    let one : to_z w128 l.divisor-bits ≡ pos 1 = ap (to_z w128) c.if-divisor-eq1.true in
    let rest : IsGcdWith (unsigned_abs (to_z w128 l.divisor-bits)) (drop l.entry-index c.args.entries.now) 1 = rw one (gcd_with_one (drop l.entry-index c.args.entries.now)) in
    let kept = rw (to_z-of_z c.ranges.weight) at l.invariant.kept in
    divisor_is_one row (kept 1 rest)

pub returns-clause-value : goal.returns-clause-value
returns-clause-value c =
    let l = c.loop-entry in
    let row = c.args.weight ∷ c.args.entries.now in
    let kept = rw (to_z-of_z c.ranges.weight) at l.invariant.kept in
    divisor_is row _ l.invariant.sign (kept _ (gcd_with_end _ l.entry-index c.args.entries.now c.loop-entry-test.false))
