use Rattle.std.proofs.Common.{◌≡◌, map, take}
use Rattle.pc_desk_why.specs.Shown.{clash_cells}
use Rattle.pc_desk_why.proofs.sheet.clash_rows.Given as goal

abbrev pub invariant-loop-line : goal.invariant-loop-line
invariant-loop-line l = l.rows.items ≡ map (clash_cells l.told) (take l.line-index l.clash_lines)
