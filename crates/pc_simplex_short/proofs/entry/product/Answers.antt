use Rattle.std.proofs.Common.{◌≤◌, ◌*◌, ◌^◌, ℕ, ℤ, ◌*ℤ◌, nat_abs, arith, to_z-of_z}
use Rattle.std.proofs.lemmas.Int.{ints}
use Rattle.pc_program_bound.specs.Bound.{IsFit}
use Rattle.pc_num.proofs.Signed.{passed}
use Rattle.pc_simplex_short.proofs.Sizes.{product_small}
use Rattle.pc_simplex_short.proofs.entry.product.Goals as goal

product_fits : (top : ℕ) (w g : ℤ) → nat_abs w * top ≤ 2 ^ 69 → nat_abs g ≤ top → IsFit (w *ℤ g)
product_fits top w g light low = let small = product_small 69 top w g light low in omega (arith, small)

pub overflow_mul-result : goal.overflow_mul-result
overflow_mul-result c =
    let fits = product_fits c.args.top c.args.weight c.args.gain c.requires.weight c.requires.gain in
    rw (to_z-of_z c.ranges.weight, to_z-of_z c.ranges.gain) (omega (arith, ints, fits))

pub returns-clause-value : goal.returns-clause-value
returns-clause-value c =
    let fits = product_fits c.args.top c.args.weight c.args.gain c.requires.weight c.requires.gain in
    rw (to_z-of_z c.ranges.weight, to_z-of_z c.ranges.gain) (passed (c.args.weight *ℤ c.args.gain) fits)

pub returns-clause-small : goal.returns-clause-small
returns-clause-small c =
    let fits = product_fits c.args.top c.args.weight c.args.gain c.requires.weight c.requires.gain in
    rw (to_z-of_z c.ranges.weight, to_z-of_z c.ranges.gain, passed (c.args.weight *ℤ c.args.gain) fits)
    (product_small 69 c.args.top c.args.weight c.args.gain c.requires.weight c.requires.gain)
