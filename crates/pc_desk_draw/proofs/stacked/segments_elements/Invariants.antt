use Rattle.std.proofs.Common.{◌≡◌, take}
use Rattle.std.specs.List.{flat_map}
use Rattle.pc_desk_draw.specs.Stacked.{segment_element}
use Rattle.pc_desk_draw.proofs.stacked.segments_elements.Given as goal

abbrev pub invariant-loop-segment : goal.invariant-loop-segment
invariant-loop-segment l =
    l.text.items ≡ flat_map (segment_element l.axis l.corner.0 l.corner.1) (take l.segment-index l.segments)
