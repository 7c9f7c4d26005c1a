use Rattle.std.proofs.Common.{◌≡◌, ◌+◌, ◌*◌, ◌++◌, drop}
use Rattle.pc_desk_draw.specs.Stacked.{bar_rows}
use Rattle.pc_desk_draw.proofs.stacked.bar_rows.Given as goal

-- what is left decides
abbrev pub invariant-loop-row : goal.invariant-loop-row
invariant-loop-row l = record {
  rows : l.text.items ++ bar_rows l.layout l.at (drop l.row-index l.rows) ≡ bar_rows l.layout l.top l.rows;
  place : l.at ≡ l.top + 22 * l.row-index;
}
