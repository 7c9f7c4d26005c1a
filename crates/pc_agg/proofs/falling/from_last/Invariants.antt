use Rattle.pc_agg.specs.Falling.{IsFallingFrom}
use Rattle.pc_agg.proofs.falling.from_last.Given as goal

abbrev pub invariant-loop-place : goal.invariant-loop-place
invariant-loop-place l = IsFallingFrom l.rising l.place l.falling
