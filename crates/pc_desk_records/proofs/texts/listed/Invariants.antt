use Rattle.std.proofs.Common.{◌≡◌, ◌++◌, drop}
use Rattle.pc_desk_records.specs.Shown.{listed_from}
use Rattle.pc_desk_records.proofs.texts.listed.Given as goal

-- what is written and what is left are the whole
abbrev pub invariant-loop-place : goal.invariant-loop-place
invariant-loop-place l = l.out.items ++ listed_from l.place (drop l.place l.texts) ≡ listed_from 0 l.texts
