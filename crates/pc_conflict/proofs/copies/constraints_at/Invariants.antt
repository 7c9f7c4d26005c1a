use Rattle.std.proofs.Common.{◌≡◌, take}
use Rattle.pc_conflict.specs.Deletion.{at_places}
use Rattle.pc_conflict.proofs.copies.constraints_at.Given as goal

abbrev pub invariant-loop-place : goal.invariant-loop-place
invariant-loop-place l = l.copies ≡ at_places l.constraints (take l.place-index l.places)
