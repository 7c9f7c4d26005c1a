use Rattle.std.proofs.Common.{sym, ◌∙◌, arith, ◌<◌}
use Rattle.pc_witness.proofs.RunFolds.{fold_yes, fold_no}
use Rattle.pc_witness.proofs.fold.with_run.Goals as goal

pub returns-then-not-has-clause-more : goal.returns-then-not-has-clause-more
returns-then-not-has-clause-more c = fold_no _ _ _ (sym c.has.ensures ∙ c.if-not-has.true)

pub returns-clause-more : goal.returns-clause-more
returns-clause-more c =
    let some : 0 < c.args.run.now.times = omega (arith, c.if-run-eq0.false) in
    fold_yes _ _ _ _ some (sym c.has.ensures ∙ c.if-not-has.false) c.with_chosen.ensures.more
