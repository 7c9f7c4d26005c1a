use Rattle.std.proofs.Common.{subst}
use Rattle.std.specs.Prelude.{All}
use Rattle.std.proofs.lemmas.List.{take_all}
use Rattle.std.proofs.lemmas.List.Elements.{All-more}
use Rattle.pc_simplex_tableau.specs.Conditions.{IsFitRow}
use Rattle.pc_solver_trials.proofs.ready.are_fit_rows.Goals as goal

pub loop-row-preserved : goal.loop-row-preserved
loop-row-preserved c =
    All-more IsFitRow c.args.rows.now c.loop-row.row-index c.row-item.result c.loop-row-test.true c.loop-row.invariant
    (subst IsFitRow c.row-item.is (c.is_fit_row.ensures c.if-not-is_fit_row.false))

pub returns : goal.returns
returns c = λ all. subst (All IsFitRow) (take_all c.loop-row.row-index c.args.rows.now c.loop-row-test.false) c.loop-row.invariant
