use Rattle.std.proofs.Common.{◌≡◌, ◌+◌, ◌*◌, ◌++◌, drop}
use Rattle.pc_desk_draw.specs.Shapes.{rows_from}
use Rattle.pc_desk_draw.proofs.shapes.rows_from.Given as goal

-- what is left decides
abbrev pub invariant-loop-entry : goal.invariant-loop-entry
invariant-loop-entry l = record {
  rows : l.text.items ++ rows_from l.layout l.at (drop l.entry-index l.entries) ≡ rows_from l.layout l.top l.entries;
  place : l.at ≡ l.top + 22 * l.entry-index;
}
