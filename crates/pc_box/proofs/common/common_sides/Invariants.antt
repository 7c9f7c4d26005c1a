use Rattle.std.proofs.Common.{◌≡◌, ◌++◌, drop}
use Rattle.pc_box.specs.Sides.{common_sides}
use Rattle.pc_box.proofs.common.common_sides.Given as goal

abbrev pub invariant-loop-place : goal.invariant-loop-place
invariant-loop-place l = l.common ++ common_sides (drop l.place l.sides) (drop l.place l.others) ≡ common_sides l.sides l.others
