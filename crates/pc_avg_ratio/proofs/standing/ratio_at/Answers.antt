use Rattle.std.proofs.Common.{arith}
use Rattle.std.proofs.lemmas.Bool.{false≢true}
use Rattle.std.proofs.lemmas.Int.{ints}
use Rattle.pc_avg_ratio.proofs.PassedProducts.{as_it_is}
use Rattle.pc_avg_ratio.proofs.Magnitudes.{ratio_found}
use Rattle.pc_avg_ratio.proofs.standing.ratio_at.Goals as goal

pub unreachable-requires : goal.unreachable-requires
unreachable-requires c =
    let sum = c.sum_with.ensures.small in
    let few = c.rows_with.ensures.few in
    let some = c.rows_with.ensures.some in
    false≢true (c.in-None.ensures.fits (omega (arith, ints, sum)) (omega (arith, ints, few, some)))

pub returns-clause-ratio : goal.returns-clause-ratio
returns-clause-ratio c =
    let sum = as_it_is c.sum_with.result (let small = c.sum_with.ensures.small in omega (arith, small)) in
    let few = c.rows_with.ensures.few in
    let some = c.rows_with.ensures.some in
    let rows = as_it_is c.rows_with.result (omega (arith, ints, few, some)) in
    ratio_found c.args.f.now c.requires.fractional c.args.counts.now c.requires.lawful c.requires.some c.in-Some.ratio
    (rw (sum, rows, c.sum_with.ensures.value, c.rows_with.ensures.value) at c.in-Some.ensures.some)
