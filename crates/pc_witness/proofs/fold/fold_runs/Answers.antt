use Rattle.pc_witness.proofs.RunFolds.{fold_none, fold_more}
use Rattle.pc_witness.proofs.fold.fold_runs.Goals as goal

pub loop-run-init : goal.loop-run-init
loop-run-init c = fold_none _ _

pub loop-run-preserved : goal.loop-run-preserved
loop-run-preserved c =
    let more = c.with_run-folded.ensures in
    fold_more _ _ _ _ _ _ c.loop-run-test.true c.run-item.is c.loop-run.invariant more.more more.few more.small
