use Rattle.std.proofs.Common.{◌≡◌, drop}
use Rattle.std.specs.Cmp.Lexicographic.{pointwise}
use Rattle.pc_model.specs.Membership.{holds}
use Rattle.pc_model.proofs.region.Region.has_cells.Given as goal

abbrev pub invariant-loop-place : goal.invariant-loop-place
invariant-loop-place l = pointwise holds l.sides l.cells ≡ pointwise holds (drop l.place l.sides) (drop l.place l.cells)
