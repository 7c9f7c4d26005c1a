use Rattle.std.proofs.Common.{◌≡◌, ◌++◌, ◌≤◌, drop, unsigned_abs, IfSome}
use Rattle.pc_desk_why.specs.Bars.{limit, part_rows, rows_of_parts}
use Rattle.pc_desk_why.proofs.bars.part_rows.Given as goal

abbrev pub invariant-loop-place : goal.invariant-loop-place
invariant-loop-place l =
    (l.rows.items ++ part_rows l.constraints l.told.places l.place l.total (drop l.place l.parts) ≡ rows_of_parts l.constraints l.told l.parts)
    × IfSome l.total (λ total. unsigned_abs total ≤ limit)
