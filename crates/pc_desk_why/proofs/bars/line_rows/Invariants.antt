use Rattle.std.proofs.Common.{◌≡◌, map, take}
use Rattle.pc_desk_why.specs.Bars.{line_row}
use Rattle.pc_desk_why.proofs.bars.line_rows.Given as goal

abbrev pub invariant-loop-line : goal.invariant-loop-line
invariant-loop-line l = l.rows.items ≡ map line_row (take l.line-index l.lines)
