use Rattle.std.proofs.Common.{◌≡◌, ◌++◌, take}
use Rattle.std.specs.List.{flat_map}
use Rattle.pc_desk_try.specs.Opened.{rows_if}
use Rattle.pc_desk_try.proofs.opened.with_openings.Given as goal

abbrev pub invariant-loop-opening : goal.invariant-loop-opening
invariant-loop-opening l = l.rows.items ≡ l.fn.rows.items ++ flat_map (rows_if l.alone l.schema l.constraints) (take l.opening-index l.openings)
