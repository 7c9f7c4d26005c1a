use Rattle.std.proofs.Common.{◌≡◌, drop, max}
use Rattle.pc_desk_draw.specs.BarSizes.{widest_text}
use Rattle.pc_desk_draw.proofs.bar_size.widest_text.Given as goal

-- what is left decides
abbrev pub invariant-loop-row : goal.invariant-loop-row
invariant-loop-row l = max l.columns (widest_text (drop l.row-index l.rows)) ≡ widest_text l.rows
