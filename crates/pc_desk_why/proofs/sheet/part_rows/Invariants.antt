use Rattle.std.proofs.Common.{◌≡◌, map, take}
use Rattle.pc_desk_why.specs.Shown.{part_cells}
use Rattle.pc_desk_why.proofs.sheet.part_rows.Given as goal

abbrev pub invariant-loop-part : goal.invariant-loop-part
invariant-loop-part l = l.rows.items ≡ map (part_cells l.constraints l.told l.end) (take l.part-index l.parts)
