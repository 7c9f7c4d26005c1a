use Rattle.std.proofs.Common.{◌≡◌, ◌≤◌, ◌^◌, drop}
use Rattle.pc_desk_draw.specs.BarSizes.{stacked}
use Rattle.pc_desk_draw.specs.Sizes.{least_size}
use Rattle.pc_desk_draw.proofs.bar_size.stacked.Given as goal

-- what is left decides
abbrev pub invariant-loop-picture : goal.invariant-loop-picture
invariant-loop-picture l = record {
  size : stacked l.size (drop l.picture-index l.pictures) ≡ stacked least_size l.pictures;
  height : l.size.height ≤ 2 ^ 79;
}
