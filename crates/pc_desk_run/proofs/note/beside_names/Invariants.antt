use Rattle.std.proofs.Common.{◌≡◌, ◌++◌, drop}
use Rattle.pc_desk_run.specs.Texts.{beside_names}
use Rattle.pc_desk_run.proofs.note.beside_names.Given as goal

abbrev pub invariant-loop-place : goal.invariant-loop-place
invariant-loop-place l = l.names.items ++ beside_names (drop l.place l.constraints) (drop l.place l.truths) ≡ beside_names l.constraints l.truths
