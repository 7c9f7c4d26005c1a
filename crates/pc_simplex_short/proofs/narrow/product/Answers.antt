use Rattle.std.proofs.Common.{◌≡◌, ◌*ℤ◌, ◌∙◌, arith, to_z-of_z}
use Rattle.std.proofs.lemmas.Int.{ints}
use Rattle.pc_simplex_short.proofs.Sizes.{product_small}
use Rattle.pc_simplex_short.proofs.Words.{FitsWord, passed_word}
use Rattle.pc_simplex_short.proofs.narrow.product.Goals as goal

pub overflow_mul-result : goal.overflow_mul-result
overflow_mul-result c =
    let gain : c.narrowed.result ≡ c.args.gain = c.narrowed.ensures ∙ to_z-of_z c.ranges.gain in
    let gain_fits : FitsWord c.args.gain = omega (arith, c.requires.gain, c.requires.top) in
    let small = product_small 60 c.args.top c.args.weight c.args.gain c.requires.weight c.requires.gain in
    rw (gain, to_z-of_z c.ranges.weight, passed_word c.args.gain gain_fits) (omega (arith, ints, small))

pub returns-clause-value : goal.returns-clause-value
returns-clause-value c =
    let gain : c.narrowed.result ≡ c.args.gain = c.narrowed.ensures ∙ to_z-of_z c.ranges.gain in
    let gain_fits : FitsWord c.args.gain = omega (arith, c.requires.gain, c.requires.top) in
    let small = product_small 60 c.args.top c.args.weight c.args.gain c.requires.weight c.requires.gain in
    let fits : FitsWord (c.args.weight *ℤ c.args.gain) = omega (arith, small) in
    rw (gain, to_z-of_z c.ranges.weight, passed_word c.args.gain gain_fits) (passed_word (c.args.weight *ℤ c.args.gain) fits)

pub returns-clause-small : goal.returns-clause-small
returns-clause-small c =
    let gain : c.narrowed.result ≡ c.args.gain = c.narrowed.ensures ∙ to_z-of_z c.ranges.gain in
    let gain_fits : FitsWord c.args.gain = omega (arith, c.requires.gain, c.requires.top) in
    let small = product_small 60 c.args.top c.args.weight c.args.gain c.requires.weight c.requires.gain in
    let fits : FitsWord (c.args.weight *ℤ c.args.gain) = omega (arith, small) in
    rw (gain, to_z-of_z c.ranges.weight, passed_word c.args.gain gain_fits, passed_word (c.args.weight *ℤ c.args.gain) fits) small
