use Rattle.std.proofs.Common.{◌∙◌}
use Rattle.std.proofs.lemmas.Result.{IfOk-weaker}
use Rattle.pc_gen.proofs.DrawnConstraints.{after_constraint, drawn_is}
use Rattle.pc_gen.proofs.Lists.{whenever_ok}
use Rattle.pc_gen.proofs.constraint.draw_constraint.Goals as goal

pub returns-clause-constraint : goal.returns-clause-constraint
returns-clause-constraint c =
    let same = drawn_is c.args.hidden.now c.args.number _ _ _ _ _ c.in_ok-when.ensures.region c.in_ok-of_box.ensures c.draw_when.ensures.state c.fold-inside.ensures.folded in
    IfOk-weaker c.constraint_by.result _ _ (λ found is. is ∙ same) c.constraint_by.ensures.constraint

pub returns-clause-state : goal.returns-clause-state
returns-clause-state c = whenever_ok c.constraint_by.result (after_constraint c.args.number _ _ _ c.draw_when.ensures.state c.constraint_by.ensures.state)
