use Rattle.pc_quantile.specs.Rungs.{AreKeysOf}
use Rattle.pc_quantile.proofs.rungs.chosen_keys.Given as goal

abbrev pub invariant-loop-place : goal.invariant-loop-place
invariant-loop-place l = AreKeysOf l.cells l.keys l.place l.chosen
