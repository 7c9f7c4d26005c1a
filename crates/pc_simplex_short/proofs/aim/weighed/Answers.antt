use Rattle.std.proofs.Common.{◌*ℤ◌, ◌^◌, ◌∙◌, arith, to_z-of_z}
use Rattle.std.proofs.lemmas.Int.{ints}
use Rattle.pc_program_bound.specs.Bound.{IsFit}
use Rattle.pc_num.proofs.Signed.{passed}
use Rattle.pc_simplex_short.proofs.Sizes.{size_of_product-le}
use Rattle.pc_simplex_short.proofs.aim.weighed.Goals as goal

pub overflow_mul-result : goal.overflow_mul-result
overflow_mul-result c =
    let small = size_of_product-le c.args.scale c.args.weight (2 ^ 55) (2 ^ 69) c.requires.scale c.requires.weight in
    let own : IsFit c.args.scale = omega (arith, c.requires.scale) in
    rw (c.from.ensures ∙ to_z-of_z c.ranges.scale, passed c.args.scale own, to_z-of_z c.ranges.weight) (omega (arith, ints, small))

pub returns-clause-value : goal.returns-clause-value
returns-clause-value c =
    let small = size_of_product-le c.args.scale c.args.weight (2 ^ 55) (2 ^ 69) c.requires.scale c.requires.weight in
    let fits : IsFit (c.args.scale *ℤ c.args.weight) = omega (arith, small) in
    let own : IsFit c.args.scale = omega (arith, c.requires.scale) in
    rw (c.from.ensures ∙ to_z-of_z c.ranges.scale, passed c.args.scale own, to_z-of_z c.ranges.weight) (passed (c.args.scale *ℤ c.args.weight) fits)

pub returns-clause-fits : goal.returns-clause-fits
returns-clause-fits c =
    let small = size_of_product-le c.args.scale c.args.weight (2 ^ 55) (2 ^ 69) c.requires.scale c.requires.weight in
    let fits : IsFit (c.args.scale *ℤ c.args.weight) = omega (arith, small) in
    let own : IsFit c.args.scale = omega (arith, c.requires.scale) in
    rw (c.from.ensures ∙ to_z-of_z c.ranges.scale, passed c.args.scale own, to_z-of_z c.ranges.weight, passed (c.args.scale *ℤ c.args.weight) fits) fits
