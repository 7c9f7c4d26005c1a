use Rattle.std.proofs.Common.{◌≡◌}
use Rattle.pc_simplex.specs.Shorts.{places_below}
use Rattle.pc_simplex.proofs.setting.mask_places.Given as goal

abbrev pub invariant-loop-place : goal.invariant-loop-place
invariant-loop-place l = l.places.items ≡ places_below l.place l.mask
