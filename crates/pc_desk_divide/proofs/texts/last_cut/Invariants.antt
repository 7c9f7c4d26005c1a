use Rattle.std.proofs.Common.{◌≡◌, None, drop}
use Rattle.pc_desk_divide.specs.Reading.{last_cut}
use Rattle.pc_desk_divide.proofs.texts.last_cut.Given as goal

-- no slash stands behind
abbrev pub invariant-loop-place : goal.invariant-loop-place
invariant-loop-place l = last_cut (drop l.place l.text) ≡ None
