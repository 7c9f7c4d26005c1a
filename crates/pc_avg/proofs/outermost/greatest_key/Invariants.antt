use Rattle.pc_avg.specs.Outermost.{IsGreatestKey}
use Rattle.pc_avg.proofs.outermost.greatest_key.Given as goal

abbrev pub invariant-loop-place : goal.invariant-loop-place
invariant-loop-place l = IsGreatestKey l.cells l.keys l.place l.fn.observed l.greatest
