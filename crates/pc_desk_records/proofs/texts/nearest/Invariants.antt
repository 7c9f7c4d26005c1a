use Rattle.std.proofs.Common.{◌≡◌, drop}
use Rattle.pc_desk_records.specs.Shown.{nearest_from}
use Rattle.pc_desk_records.proofs.texts.nearest.Given as goal

-- what is left decides
abbrev pub invariant-loop-place : goal.invariant-loop-place
invariant-loop-place l = nearest_from l.text 0 0 65 l.others ≡ nearest_from l.text l.place l.best l.least (drop l.place l.others)
