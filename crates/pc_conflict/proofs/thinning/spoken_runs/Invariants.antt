use Rattle.std.proofs.Common.{◌≡◌, take}
use Rattle.pc_conflict.specs.Besides.{spoken_runs}
use Rattle.pc_conflict.proofs.thinning.spoken_runs.Given as goal

abbrev pub invariant-loop-run : goal.invariant-loop-run
invariant-loop-run l = l.kept ≡ spoken_runs l.whole l.rest (take l.run-index l.runs)
