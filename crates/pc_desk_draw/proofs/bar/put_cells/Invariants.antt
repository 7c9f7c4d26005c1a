use Rattle.std.proofs.Common.{◌≡◌, ◌++◌}
use Rattle.pc_desk_draw.specs.Bars.{cells}
use Rattle.pc_desk_draw.proofs.bar.put_cells.Given as goal

abbrev pub invariant-loop-column : goal.invariant-loop-column
invariant-loop-column l = l.out.items ≡ l.fn.out.items ++ cells l.drawing l.column
