use Rattle.pc_program.specs.Settled.{AreSettled}
use Rattle.pc_program.proofs.solving.settle_all.Given as goal

abbrev pub invariant-loop-place : goal.invariant-loop-place
invariant-loop-place l = AreSettled l.p l.counts.items l.multipliers l.place
