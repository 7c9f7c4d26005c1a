use Rattle.std.proofs.Common.{◌≡◌, ◌++◌, length}
use Rattle.std.specs.List.{flat_map}
use Rattle.pc_desk_draw.specs.Charts.{part_text}
use Rattle.pc_desk_draw.specs.Questions.{pictures_of}
use Rattle.pc_desk_draw.proofs.chart.parts_text.Given as goal

-- what is left decides
abbrev pub invariant-loop-picture : goal.invariant-loop-picture
invariant-loop-picture l = l.text.items ++ flat_map part_text (pictures_of l.rest) ≡ flat_map part_text (pictures_of l.entries)

abbrev pub decreases-loop-picture : goal.decreases-loop-picture
decreases-loop-picture l = length l.rest
