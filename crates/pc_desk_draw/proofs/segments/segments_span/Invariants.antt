use Rattle.std.proofs.Common.{◌≡◌, drop}
use Rattle.pc_desk_draw.specs.Numbers.{hull}
use Rattle.pc_desk_draw.specs.Segments.{segments_span}
use Rattle.pc_desk_draw.proofs.segments.segments_span.Given as goal

-- what is left decides
abbrev pub invariant-loop-segment : goal.invariant-loop-segment
invariant-loop-segment l = hull l.bounds (segments_span (drop l.segment-index l.segments)) ≡ segments_span l.segments
