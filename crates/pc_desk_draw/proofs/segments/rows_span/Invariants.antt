use Rattle.std.proofs.Common.{◌≡◌, drop}
use Rattle.pc_desk_draw.specs.Numbers.{hull}
use Rattle.pc_desk_draw.specs.Segments.{rows_span}
use Rattle.pc_desk_draw.proofs.segments.rows_span.Given as goal

-- what is left decides
abbrev pub invariant-loop-row : goal.invariant-loop-row
invariant-loop-row l = hull l.bounds (rows_span (drop l.row-index l.rows)) ≡ rows_span l.rows
