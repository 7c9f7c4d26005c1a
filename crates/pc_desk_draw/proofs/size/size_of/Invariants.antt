use Rattle.std.proofs.Common.{◌≡◌, ◌≤◌, ◌+◌, ◌*◌, length}
use Rattle.pc_desk_draw.specs.Questions.{pictures_of}
use Rattle.pc_desk_draw.specs.Sizes.{grown_by, least_size}
use Rattle.pc_desk_draw.proofs.size.size_of.Given as goal

-- what is left decides; each block adds no more than 88 pixels to the height
abbrev pub invariant-loop-picture : goal.invariant-loop-picture
invariant-loop-picture l = record {
  size : grown_by l.size (pictures_of l.rest) ≡ grown_by least_size (pictures_of l.entries);
  height : l.size.height + 88 * length l.rest ≤ 33 + 88 * length l.entries;
}

abbrev pub decreases-loop-picture : goal.decreases-loop-picture
decreases-loop-picture l = length l.rest
