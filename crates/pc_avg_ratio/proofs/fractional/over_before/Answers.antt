use Rattle.std.proofs.Common.{pos}
use Rattle.pc_proof.specs.Table.{ratio_of}
use Rattle.pc_avg_ratio.proofs.Magnitudes.{over_sum, over_count, over_before_small}
use Rattle.pc_avg_ratio.proofs.PassedProducts.{product_fits, difference_fits, difference_is}
use Rattle.pc_avg_ratio.proofs.fractional.over_before.Goals as goal

pub overflow_mul-result : goal.overflow_mul-result
overflow_mul-result c =
    product_fits c.args.ratio.den c.args.f.now.sum
    (over_sum c.args.f.now c.requires.fractional (ratio_of c.args.ratio) c.requires.positive c.requires.small_den c.requires.small_num)

pub overflow_mul-result-2 : goal.overflow_mul-result-2
overflow_mul-result-2 c =
    rw c.from.ensures
    (product_fits c.args.ratio.num (pos c.args.f.now.count)
    (over_count c.args.f.now c.requires.fractional (ratio_of c.args.ratio) c.requires.positive c.requires.small_den c.requires.small_num))

pub overflow_sub-result : goal.overflow_sub-result
overflow_sub-result c =
    rw c.from.ensures
    (difference_fits c.args.ratio.den c.args.f.now.sum c.args.ratio.num (pos c.args.f.now.count)
    (over_sum c.args.f.now c.requires.fractional (ratio_of c.args.ratio) c.requires.positive c.requires.small_den c.requires.small_num)
    (over_count c.args.f.now c.requires.fractional (ratio_of c.args.ratio) c.requires.positive c.requires.small_den c.requires.small_num))

pub returns-clause-value : goal.returns-clause-value
returns-clause-value c =
    rw c.from.ensures
    (difference_is c.args.ratio.den c.args.f.now.sum c.args.ratio.num (pos c.args.f.now.count)
    (over_sum c.args.f.now c.requires.fractional (ratio_of c.args.ratio) c.requires.positive c.requires.small_den c.requires.small_num)
    (over_count c.args.f.now c.requires.fractional (ratio_of c.args.ratio) c.requires.positive c.requires.small_den c.requires.small_num))

pub returns-clause-small : goal.returns-clause-small
returns-clause-small c =
    rw (returns-clause-value c)
    (over_before_small c.args.f.now c.requires.fractional (ratio_of c.args.ratio) c.requires.positive c.requires.small_den c.requires.small_num)
