use Rattle.std.proofs.Common.{◌≡◌, ◌<◌, length, ap, arith}
use Rattle.pc_simplex_tableau.specs.Tableau.{Columns}
use Rattle.pc_simplex_tableau.proofs.Deciding.{none_first, none_more, first_found, may_enter}
use Rattle.pc_simplex_tableau.proofs.choice.entering.Goals as goal

pub loop-column-init : goal.loop-column-init
loop-column-init c = none_first (may_enter c.args.tableau.now)

pub returns-then-may_enter-clause-value : goal.returns-then-may_enter-clause-value
returns-then-may_enter-clause-value c =
    let counted : length c.columns.inside.ranges ≡ length c.args.columns.now.ranges = ap (λ (f : Columns). length f.ranges) c.columns.view_is in
    let within : c.loop-column.column < length c.args.columns.now.ranges = omega (arith, c.loop-column-test.true, c.len-column-end.ensures, counted) in
    first_found (may_enter c.args.tableau.now) (length c.args.columns.now.ranges) c.loop-column.column within c.loop-column.invariant c.if-may_enter.ensures

pub loop-column-preserved : goal.loop-column-preserved
loop-column-preserved c = none_more (may_enter c.args.tableau.now) c.loop-column.column c.loop-column.invariant c.if-may_enter.ensures
