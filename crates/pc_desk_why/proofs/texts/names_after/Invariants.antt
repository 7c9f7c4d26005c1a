use Rattle.std.proofs.Common.{◌≡◌, take}
use Rattle.pc_desk_why.specs.Texts.{names_after}
use Rattle.pc_desk_why.proofs.texts.names_after.Given as goal

abbrev pub invariant-loop-place : goal.invariant-loop-place
invariant-loop-place l = l.bytes.items ≡ names_after l.constraints (take l.place-index l.places)
