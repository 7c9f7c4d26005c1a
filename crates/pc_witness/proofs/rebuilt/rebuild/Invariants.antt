use Rattle.std.proofs.Common.{◌≡◌, ◌++◌, length, drop}
use Rattle.pc_model.specs.Runs.{runs_from}
use Rattle.pc_witness.proofs.rebuilt.rebuild.Given as goal

abbrev pub invariant-loop-place : goal.invariant-loop-place
invariant-loop-place l = (length l.picks ≡ length l.counts) × (l.runs.items ++ runs_from (drop l.place l.picks) (drop l.place l.counts) ≡ runs_from l.picks l.counts)
