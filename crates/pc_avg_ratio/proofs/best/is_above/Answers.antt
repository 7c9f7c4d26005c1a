use Rattle.std.proofs.Common.{refl}
use Rattle.pc_avg_ratio.specs.Fractional.{rows_with, sum_with}
use Rattle.pc_avg_ratio.proofs.Magnitudes.{sum_times_rows}
use Rattle.pc_avg_ratio.proofs.PassedProducts.{product_fits, product_is}
use Rattle.pc_avg_ratio.proofs.best.is_above.Goals as goal

pub overflow_mul-result : goal.overflow_mul-result
overflow_mul-result c =
    rw (c.sum_with.ensures.value, c.rows_with.ensures.value)
    (product_fits (sum_with c.args.f.now c.args.others.now) (rows_with c.args.f.now c.args.counts.now)
    (sum_times_rows c.args.f.now c.requires.fractional c.args.others.now c.args.counts.now c.requires.others c.requires.lawful))

pub overflow_mul-result-2 : goal.overflow_mul-result-2
overflow_mul-result-2 c =
    rw (c.sum_with-2.ensures.value, c.rows_with-2.ensures.value)
    (product_fits (sum_with c.args.f.now c.args.counts.now) (rows_with c.args.f.now c.args.others.now)
    (sum_times_rows c.args.f.now c.requires.fractional c.args.counts.now c.args.others.now c.requires.lawful c.requires.others))

pub returns : goal.returns
returns c =
    let over =
    product_is (sum_with c.args.f.now c.args.others.now) (rows_with c.args.f.now c.args.counts.now)
    (sum_times_rows c.args.f.now c.requires.fractional c.args.others.now c.args.counts.now c.requires.others c.requires.lawful) in
    let under =
    product_is (sum_with c.args.f.now c.args.counts.now) (rows_with c.args.f.now c.args.others.now)
    (sum_times_rows c.args.f.now c.requires.fractional c.args.counts.now c.args.others.now c.requires.lawful c.requires.others) in
    rw (c.sum_with.ensures.value, c.rows_with.ensures.value, c.sum_with-2.ensures.value, c.rows_with-2.ensures.value, over, under) refl
