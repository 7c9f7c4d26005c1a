use Rattle.std.proofs.Common.{refl, arith}
use Rattle.std.proofs.lemmas.Int.{ints}
use Rattle.pc_program_bound.specs.Allocation.{worth}
use Rattle.pc_avg_ratio.proofs.Magnitudes.{sums_small, sums_lawful, numbers_small, sum_small}
use Rattle.pc_avg_ratio.proofs.PassedProducts.{sum_is}
use Rattle.pc_avg_ratio.proofs.fractional.sum_with.Goals as goal

pub worth-requires-clause-small : goal.worth-requires-clause-small
worth-requires-clause-small c = sums_small c.args.f.now c.requires.fractional

pub worth-requires-clause-allowed : goal.worth-requires-clause-allowed
worth-requires-clause-allowed c = sums_lawful c.args.f.now c.requires.fractional c.args.counts.now c.requires.lawful

pub overflow_add-result : goal.overflow_add-result
overflow_add-result c =
    let small = c.requires.fractional.small_sum in
    let added = numbers_small c.args.f.now c.requires.fractional c.args.counts.now c.requires.lawful in
    let is = c.worth.ensures in
    omega (arith, ints, small, added, is)

pub returns-clause-value : goal.returns-clause-value
returns-clause-value c =
    let small = c.requires.fractional.small_sum in
    let added = numbers_small c.args.f.now c.requires.fractional c.args.counts.now c.requires.lawful in
    sum_is c.args.f.now.sum c.worth.result c.args.f.now.sum (worth c.args.f.now.sums c.args.counts.now) refl c.worth.ensures (omega (arith, small)) (omega (arith, added))

pub returns-clause-small : goal.returns-clause-small
returns-clause-small c = rw (returns-clause-value c) (sum_small c.args.f.now c.requires.fractional c.args.counts.now c.requires.lawful)
