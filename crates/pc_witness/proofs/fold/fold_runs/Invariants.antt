use Rattle.pc_witness.proofs.RunFolds.{IsFoldedTo}
use Rattle.pc_witness.proofs.fold.fold_runs.Given as goal

abbrev pub invariant-loop-run : goal.invariant-loop-run
invariant-loop-run l = IsFoldedTo l.query l.runs l.run-index l.folded
