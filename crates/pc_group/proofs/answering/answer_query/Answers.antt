use Rattle.std.proofs.lemmas.Result.{IfOk-weaker}
use Rattle.pc_group.proofs.answering.answer_query.Goals as goal

pub answer_folds-requires-clause-folds : goal.answer_folds-requires-clause-folds
answer_folds-requires-clause-folds c = rw c.as_slice.ensures c.in_ok-folds.ensures.fit

pub returns : goal.returns
returns c =
    IfOk-weaker c.answer_folds.result _ _
    (λ more has blocks before. has c.args.rows.now (rw c.as_slice.ensures c.in_ok-folds.ensures.folds) blocks before)
    c.answer_folds.ensures
