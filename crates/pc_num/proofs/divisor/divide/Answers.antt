use Rattle.std.proofs.Common.{FitsSigned, get_or, pos, rules, arith}
use Rattle.std.specs.Int.{w128}
use Rattle.std.proofs.lemmas.Int.{ints}
use Rattle.pc_num.proofs.Rows.{divide_step, row_divided_once}
use Rattle.pc_num.proofs.divisor.divide.Goals as goal

pub loop-entry-preserved : goal.loop-entry-preserved
loop-entry-preserved c =
    let l = c.loop-entry in
    let x_fits : FitsSigned w128 (get_or l.row l.entry-index (pos 0)) = search rules in
    divide_step c.args.row.now l.row l.entry-index c.args.divisor c.loop-entry-test.true l.auto.row x_fits c.ranges.divisor c.requires l.invariant

pub returns-then-divisor-eq1 : goal.returns-then-divisor-eq1
returns-then-divisor-eq1 c = row_divided_once c.args.row.now c.args.divisor (let one = c.if-divisor-eq1.true in omega (arith, ints, one))
