use Rattle.std.proofs.Common.{◌<◌, length, arith}
use Rattle.pc_simplex_tableau.proofs.Deciding.{none_first, none_more, first_found, may_enter}
use Rattle.pc_simplex_short.specs.Short.{spelled}
use Rattle.pc_simplex_short.proofs.choice.entering.Goals as goal

pub loop-column-init : goal.loop-column-init
loop-column-init c = none_first (may_enter (spelled c.args.setting.now c.args.tableau.now))

pub returns-then-may_enter-clause-value : goal.returns-then-may_enter-clause-value
returns-then-may_enter-clause-value c =
    let within : c.loop-column.column < length c.args.setting.now.columns.ranges = omega (arith, c.loop-column-test.true, c.entering_columns-column-end.ensures) in
    first_found (may_enter (spelled c.args.setting.now c.args.tableau.now)) (length c.args.setting.now.columns.ranges) c.loop-column.column within c.loop-column.invariant c.if-may_enter.ensures

pub loop-column-preserved : goal.loop-column-preserved
loop-column-preserved c = none_more (may_enter (spelled c.args.setting.now c.args.tableau.now)) c.loop-column.column c.loop-column.invariant c.if-may_enter.ensures
