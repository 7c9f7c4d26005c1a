use Rattle.std.proofs.Common.{arith}
use Rattle.std.proofs.lemmas.Int.{ints}
use Rattle.pc_num.specs.Scaled.{greatest_size}
use Rattle.pc_avg_ratio.specs.Fractional.{most_rows, most_sum}
use Rattle.pc_avg_ratio.proofs.PassedProducts.{small_product, difference_fits, difference_is}
use Rattle.pc_avg_ratio.proofs.programs.gain_over.Goals as goal

pub overflow_sub-result : goal.overflow_sub-result
overflow_sub-result c =
    difference_fits c.args.ratio.den c.args.number c.args.ratio.num c.args.row
    (small_product c.args.ratio.den c.args.number most_rows greatest_size (omega (arith, ints, c.requires.positive, c.requires.small_den)) c.requires.small_number (omega arith) (omega arith) (omega arith))
    (small_product c.args.ratio.num c.args.row most_sum 1 c.requires.small_num c.requires.one (omega arith) (omega arith) (omega arith))

pub returns : goal.returns
returns c =
    difference_is c.args.ratio.den c.args.number c.args.ratio.num c.args.row
    (small_product c.args.ratio.den c.args.number most_rows greatest_size (omega (arith, ints, c.requires.positive, c.requires.small_den)) c.requires.small_number (omega arith) (omega arith) (omega arith))
    (small_product c.args.ratio.num c.args.row most_sum 1 c.requires.small_num c.requires.one (omega arith) (omega arith) (omega arith))
