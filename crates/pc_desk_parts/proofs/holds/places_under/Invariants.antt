use Rattle.std.proofs.Common.{◌≡◌, take}
use Rattle.pc_desk_parts.specs.Held.{of_each, place_if_under}
use Rattle.pc_desk_parts.proofs.holds.places_under.Given as goal

abbrev pub invariant-loop-place : goal.invariant-loop-place
invariant-loop-place l = l.places ≡ of_each (place_if_under l.constraints l.row) (take l.place l.constraints)
