use Rattle.std.proofs.Common.{◌≡◌, drop}
use Rattle.pc_desk_records.specs.Beginnings.{begin_from, begin_of}
use Rattle.pc_desk_records.proofs.begin.begin_of.Given as goal

-- what is left decides
abbrev pub invariant-loop-place : goal.invariant-loop-place
invariant-loop-place l = begin_of l.before l.text ≡ begin_from l.passage l.place (drop l.place l.text)
