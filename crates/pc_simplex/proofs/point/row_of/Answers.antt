use Rattle.std.proofs.Common.{◌==◌, ◌<◌, length, arith}
use Rattle.pc_simplex_tableau.specs.Tableau.{row_at}
use Rattle.pc_simplex_tableau.proofs.Deciding.{none_first, none_more, first_found}
use Rattle.pc_simplex.proofs.point.row_of.Goals as goal

pub loop-at-init : goal.loop-at-init
loop-at-init c = none_first (λ r. (row_at c.args.tableau.now r).basic == c.args.column)

pub returns-then-is_basic_in-clause-value : goal.returns-then-is_basic_in-clause-value
returns-then-is_basic_in-clause-value c =
    let within : c.loop-at.at < length c.args.tableau.now.rows = omega (arith, c.loop-at-test.true, c.count-at-end.ensures) in
    first_found (λ r. (row_at c.args.tableau.now r).basic == c.args.column) (length c.args.tableau.now.rows) c.loop-at.at within c.loop-at.invariant c.if-is_basic_in.ensures

pub loop-at-preserved : goal.loop-at-preserved
loop-at-preserved c = none_more (λ r. (row_at c.args.tableau.now r).basic == c.args.column) c.loop-at.at c.loop-at.invariant c.if-is_basic_in.ensures
