use Rattle.std.proofs.Common.{pos, arith}
use Rattle.std.proofs.lemmas.Int.{ints}
use Rattle.pc_program_bound.specs.Allocation.{worth}
use Rattle.pc_avg_ratio.proofs.Excess.{worth_some, rows_some, most_rows_with}
use Rattle.pc_avg_ratio.proofs.Magnitudes.{rows_small}
use Rattle.pc_avg_ratio.proofs.PassedProducts.{sum_is}
use Rattle.pc_avg_ratio.proofs.fractional.rows_with.Goals as goal

pub worth-requires-clause-small : goal.worth-requires-clause-small
worth-requires-clause-small c = rows_small c.args.f.now c.requires.fractional

pub returns-clause-value : goal.returns-clause-value
returns-clause-value c =
    let few = c.requires.fractional.few in
    let added = c.requires.fractional.few_rows c.args.counts.now c.requires.lawful in
    let some = worth_some c.args.f.now c.requires.fractional c.args.counts.now in
    sum_is c.from.result c.worth.result (pos c.args.f.now.count) (worth c.args.f.now.rows c.args.counts.now) c.from.ensures c.worth.ensures (omega (arith, ints, few)) (omega (arith, ints, added, some))

pub returns-clause-some : goal.returns-clause-some
returns-clause-some c = rw (returns-clause-value c) (rows_some c.args.f.now c.requires.fractional c.args.counts.now)

pub returns-clause-few : goal.returns-clause-few
returns-clause-few c = rw (returns-clause-value c) (most_rows_with c.args.f.now c.requires.fractional c.args.counts.now c.requires.lawful)
