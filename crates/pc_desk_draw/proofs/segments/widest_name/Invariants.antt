use Rattle.std.proofs.Common.{◌≡◌, drop, max}
use Rattle.pc_desk_draw.specs.Segments.{widest_name}
use Rattle.pc_desk_draw.proofs.segments.widest_name.Given as goal

-- what is left decides
abbrev pub invariant-loop-row : goal.invariant-loop-row
invariant-loop-row l = max l.width (widest_name (drop l.row-index l.rows)) ≡ widest_name l.rows
