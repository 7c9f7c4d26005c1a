use Rattle.pc_proof.specs.Table.{ratio_of}
use Rattle.pc_avg_ratio.specs.Fractional.{sum_with, rows_with}
use Rattle.pc_avg_ratio.proofs.Magnitudes.{over_sum_of, over_rows_of}
use Rattle.pc_avg_ratio.proofs.PassedProducts.{product_fits, difference_fits, difference_is}
use Rattle.pc_avg_ratio.proofs.fractional.excess.Goals as goal

pub overflow_mul-result : goal.overflow_mul-result
overflow_mul-result c =
    rw c.sum_with.ensures.value
    (product_fits c.args.ratio.den (sum_with c.args.f.now c.args.counts.now)
    (over_sum_of c.args.f.now c.requires.fractional (ratio_of c.args.ratio) c.requires.positive c.requires.small_den c.requires.small_num c.args.counts.now c.requires.lawful))

pub overflow_mul-result-2 : goal.overflow_mul-result-2
overflow_mul-result-2 c =
    rw c.rows_with.ensures.value
    (product_fits c.args.ratio.num (rows_with c.args.f.now c.args.counts.now)
    (over_rows_of c.args.f.now c.requires.fractional (ratio_of c.args.ratio) c.requires.positive c.requires.small_den c.requires.small_num c.args.counts.now c.requires.lawful))

pub overflow_sub-result : goal.overflow_sub-result
overflow_sub-result c =
    rw (c.sum_with.ensures.value, c.rows_with.ensures.value)
    (difference_fits c.args.ratio.den (sum_with c.args.f.now c.args.counts.now) c.args.ratio.num (rows_with c.args.f.now c.args.counts.now)
    (over_sum_of c.args.f.now c.requires.fractional (ratio_of c.args.ratio) c.requires.positive c.requires.small_den c.requires.small_num c.args.counts.now c.requires.lawful)
    (over_rows_of c.args.f.now c.requires.fractional (ratio_of c.args.ratio) c.requires.positive c.requires.small_den c.requires.small_num c.args.counts.now c.requires.lawful))

pub returns : goal.returns
returns c =
    rw (c.sum_with.ensures.value, c.rows_with.ensures.value)
    (difference_is c.args.ratio.den (sum_with c.args.f.now c.args.counts.now) c.args.ratio.num (rows_with c.args.f.now c.args.counts.now)
    (over_sum_of c.args.f.now c.requires.fractional (ratio_of c.args.ratio) c.requires.positive c.requires.small_den c.requires.small_num c.args.counts.now c.requires.lawful)
    (over_rows_of c.args.f.now c.requires.fractional (ratio_of c.args.ratio) c.requires.positive c.requires.small_den c.requires.small_num c.args.counts.now c.requires.lawful))
