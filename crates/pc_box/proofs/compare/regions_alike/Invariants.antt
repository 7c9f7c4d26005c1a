use Rattle.std.proofs.Common.{◌≡◌, drop}
use Rattle.std.specs.Cmp.Lexicographic.{pointwise}
use Rattle.pc_box.specs.Boxes.{are_like}
use Rattle.pc_box.proofs.compare.regions_alike.Given as goal

abbrev pub invariant-loop-place : goal.invariant-loop-place
invariant-loop-place l = pointwise are_like l.sides l.others ≡ pointwise are_like (drop l.place l.sides) (drop l.place l.others)
