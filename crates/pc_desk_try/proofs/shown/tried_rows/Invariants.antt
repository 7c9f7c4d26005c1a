use Rattle.std.proofs.Common.{◌≡◌, map, take}
use Rattle.pc_desk_try.specs.Shown.{tried_cells}
use Rattle.pc_desk_try.proofs.shown.tried_rows.Given as goal

abbrev pub invariant-loop-tried : goal.invariant-loop-tried
invariant-loop-tried l = l.rows ≡ map tried_cells (take l.tried-index l.each)
