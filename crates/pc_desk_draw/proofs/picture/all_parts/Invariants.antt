use Rattle.std.proofs.Common.{◌≡◌, ◌≤◌, ◌+◌, ◌*◌, ◌++◌, length}
use Rattle.pc_desk_draw.specs.Questions.{pictures_of}
use Rattle.pc_desk_draw.specs.Pictures.{parts_from}
use Rattle.pc_desk_draw.proofs.picture.all_parts.Given as goal

-- what is left decides; each block takes no more than 88 pixels of the height
abbrev pub invariant-loop-picture : goal.invariant-loop-picture
invariant-loop-picture l = record {
  text : l.text.items ++ parts_from l.top (pictures_of l.rest) ≡ parts_from 5 (pictures_of l.entries);
  height : l.top + 88 * length l.rest ≤ 5 + 88 * length l.entries;
}

abbrev pub decreases-loop-picture : goal.decreases-loop-picture
decreases-loop-picture l = length l.rest
