use Rattle.pc_agg.specs.Kept.{AreKept}
use Rattle.pc_agg.proofs.ladder.kept_keys.Given as goal

abbrev pub invariant-loop-place : goal.invariant-loop-place
invariant-loop-place l = AreKept l.cells l.keys l.test l.seen l.place l.kept
