use Rattle.std.proofs.Common.{◌≡◌, ◌<◌, ◌^◌, true, false, pos, ◌-ℤ◌, sym, refl, to_z, arith}
use Rattle.std.specs.Int.{w128}
use Rattle.std.proofs.lemmas.Int.{to_z_pos}
use Rattle.pc_num.proofs.Signed.{passed}
use Rattle.pc_program_bound.specs.Bound.{IsFit}
use Rattle.pc_simplex_tableau.specs.Relaxation.{is_short, left_of, slack_range}
use Rattle.pc_simplex_short.specs.Kept.{IsWithin}
use Rattle.pc_simplex.proofs.ShortStart.{short_value-above, short_value-left}
use Rattle.pc_simplex.proofs.short_first.first_row.Goals as goal

pub narrowed-requires : goal.narrowed-requires
narrowed-requires c =
    let p = c.args.p.now in
    let floors = c.args.floor.now in
    let j = c.args.constraint in
    let left = c.left_of-left.result in
    let range = c.slack_range.result in
    let left_passed = passed left c.left_of-left.ensures.fits in
    let short : is_short p floors j ≡ true = rw (left_passed, c.left_of-left.ensures.value) at (sym c.if-is_short_by.ensures) in
    let small = short_value-above p floors c.requires.program c.requires.none j c.requires.own short in
    let most = c.requires.program.small_most j c.requires.own in
    let range_is : to_z w128 range ≡ pos range = to_z_pos w128 range (omega (arith, c.slack_range.ensures, most)) in
    let value : left -ℤ pos range ≡ left_of p floors j -ℤ pos (slack_range p j) = rw (c.left_of-left.ensures.value, c.slack_range.ensures) refl in
    let within : IsWithin 50 (left -ℤ pos range) = rw value small in
    let fits : IsFit (left -ℤ pos range) = omega (arith, within) in
    rw (left_passed, range_is, passed (left -ℤ pos range) fits) within

pub narrowed-requires-2 : goal.narrowed-requires-2
narrowed-requires-2 c =
    let p = c.args.p.now in
    let floors = c.args.floor.now in
    let j = c.args.constraint in
    let left_passed = passed c.left_of-left.result c.left_of-left.ensures.fits in
    let short : is_short p floors j ≡ false = rw (left_passed, c.left_of-left.ensures.value) at (sym c.if-is_short_by.ensures) in
    rw (left_passed, c.left_of-left.ensures.value) (short_value-left p floors c.requires.program c.requires.none j c.requires.own short)
