use Rattle.std.proofs.Common.{arith, ◌≡◌, pos, to_z, of_z}
use Rattle.std.proofs.lemmas.Int.{ints}
use mir.Syntax.{w128}
use Rattle.pc_program.proofs.Widths.{product_size, product_fits, product_same}
use Rattle.pc_nested.proofs.counting.product.Goals as goal

pub overflow_mul-result : goal.overflow_mul-result
overflow_mul-result c =
    let gain : to_z w128 (of_z w128 c.args.gain) ≡ c.args.gain = omega (arith, ints) in
    let count : to_z w128 c.args.count ≡ pos c.args.count = omega (arith, ints) in
    rw (gain, count) (product_fits c.args.gain c.args.count c.requires.small.0 c.requires.small.1)

pub returns-clause-value : goal.returns-clause-value
returns-clause-value c =
    let gain : to_z w128 (of_z w128 c.args.gain) ≡ c.args.gain = omega (arith, ints) in
    let count : to_z w128 c.args.count ≡ pos c.args.count = omega (arith, ints) in
    rw (gain, count) (product_same c.args.gain c.args.count c.requires.small.0 c.requires.small.1)

pub returns-clause-small : goal.returns-clause-small
returns-clause-small c =
    let gain : to_z w128 (of_z w128 c.args.gain) ≡ c.args.gain = omega (arith, ints) in
    let count : to_z w128 c.args.count ≡ pos c.args.count = omega (arith, ints) in
    rw (gain, count, product_same c.args.gain c.args.count c.requires.small.0 c.requires.small.1)
    (product_size c.args.gain c.args.count c.requires.small.0 c.requires.small.1)
