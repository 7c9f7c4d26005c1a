use Rattle.std.proofs.Common.{◌≡◌, ◌<◌, get_or, length, pos, ◌-ℤ◌, ◌*ℤ◌, to_z-of_z, arith}
use Rattle.std.proofs.lemmas.List.Elements.{All-weaker}
use Rattle.pc_program_bound.specs.Bound.{IsFit}
use Rattle.pc_num.proofs.Signed.{passed}
use Rattle.pc_simplex_tableau.proofs.Coded.{read_row, combined_start, combined_more, combined_end}
use Rattle.pc_simplex_short.specs.Kept.{IsWithin}
use Rattle.pc_simplex_short.proofs.Sizes.{mixed_fits}
use Rattle.pc_simplex_short.proofs.Words.{FitsWord, passed_word}
use Rattle.pc_simplex_short.proofs.aim.combine.Goals as goal

pub loop-place-init : goal.loop-place-init
loop-place-init c = combined_start _ _ _ _ (All-weaker (IsWithin 64) IsFit (λ x h. omega (arith, h)) c.args.row.now c.requires.row)

pub loop-place-preserved : goal.loop-place-preserved
loop-place-preserved c =
    let l = c.loop-place in
    let old = c.args.row.now in
    let other = c.args.other.now in
    let a = get_or l.row l.place (pos 0) in
    let b = get_or other l.place (pos 0) in
    let within : l.place < length old = c.loop-place-test.true in
    let made = rw (to_z-of_z c.ranges.p, to_z-of_z c.ranges.t) at l.invariant in
    let kept = read_row c.args.p c.args.t old other l.row l.place (pos 0) (pos 0) within c.requires.sized made in
    let own : IsWithin 64 a = rw kept (c.requires.row l.place (pos 0) within) in
    let others : IsWithin 50 b = c.requires.other l.place (pos 0) (omega (arith, c.requires.sized, within)) in
    let fits = mixed_fits c.args.p a c.args.t b c.requires.p own c.requires.t others in
    let a_fits : IsFit a = omega (arith, own) in
    let b_fits : FitsWord b = omega (arith, others) in
    let number : c.mixed.result ≡ c.args.p *ℤ a -ℤ c.args.t *ℤ b =
    rw (to_z-of_z c.ranges.p, to_z-of_z c.ranges.t, passed a a_fits, passed_word b b_fits) at c.mixed.ensures in
    let result : IsFit c.mixed.result = rw number fits.2 in
    rw (to_z-of_z c.ranges.p, to_z-of_z c.ranges.t, passed c.mixed.result result)
    (combined_more c.args.p c.args.t old other l.row l.place (pos 0) (pos 0) within c.requires.sized made c.mixed.result fits number)

pub returns-clause-combined : goal.returns-clause-combined
returns-clause-combined c =
    let l = c.loop-place in
    let ended = combined_end _ _ _ _ l.row l.place c.loop-place-test.false c.requires.sized l.invariant in
    rw (to_z-of_z c.ranges.p, to_z-of_z c.ranges.t) at ended.1
