use Rattle.std.proofs.Common.{◌≡◌, ◌-ℤ◌, ◌*ℤ◌, ◌∙◌, pos, arith, to_z-of_z}
use Rattle.std.proofs.lemmas.Int.{ints}
use Rattle.pc_program_bound.specs.Bound.{IsFit}
use Rattle.pc_num.proofs.Signed.{passed}
use Rattle.pc_simplex_short.proofs.Sizes.{lowered_fits}
use Rattle.pc_simplex_short.proofs.row.lowered.Goals as goal

pub returns-clause-value : goal.returns-clause-value
returns-clause-value c =
    let fits = lowered_fits c.args.value c.args.entry c.args.range c.requires.value c.requires.entry c.ranges.range.fits in
    let value : c.from.result ≡ c.args.value = c.from.ensures ∙ to_z-of_z c.ranges.value in
    let entry : c.from-2.result ≡ c.args.entry = c.from-2.ensures ∙ to_z-of_z c.ranges.entry in
    let range : c.from-3.result ≡ pos c.args.range = c.from-3.ensures in
    let value_fits : IsFit c.args.value = omega (arith, c.requires.value) in
    let entry_fits : IsFit c.args.entry = omega (arith, c.requires.entry) in
    let range_fits : IsFit (pos c.args.range) = omega (arith, ints, c.ranges.range.fits) in
    rw (
      value,
      entry,
      range,
      passed c.args.value value_fits,
      passed c.args.entry entry_fits,
      passed (pos c.args.range) range_fits,
      passed (c.args.entry *ℤ pos c.args.range) fits.0,
    ) (passed (c.args.value -ℤ c.args.entry *ℤ pos c.args.range) fits.1)

pub returns-clause-fits : goal.returns-clause-fits
returns-clause-fits c =
    let fits = lowered_fits c.args.value c.args.entry c.args.range c.requires.value c.requires.entry c.ranges.range.fits in
    let value : c.from.result ≡ c.args.value = c.from.ensures ∙ to_z-of_z c.ranges.value in
    let entry : c.from-2.result ≡ c.args.entry = c.from-2.ensures ∙ to_z-of_z c.ranges.entry in
    let range : c.from-3.result ≡ pos c.args.range = c.from-3.ensures in
    let value_fits : IsFit c.args.value = omega (arith, c.requires.value) in
    let entry_fits : IsFit c.args.entry = omega (arith, c.requires.entry) in
    let range_fits : IsFit (pos c.args.range) = omega (arith, ints, c.ranges.range.fits) in
    rw (
      value,
      entry,
      range,
      passed c.args.value value_fits,
      passed c.args.entry entry_fits,
      passed (pos c.args.range) range_fits,
      passed (c.args.entry *ℤ pos c.args.range) fits.0,
      passed (c.args.value -ℤ c.args.entry *ℤ pos c.args.range) fits.1,
    ) fits.1
