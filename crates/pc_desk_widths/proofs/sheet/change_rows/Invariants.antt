use Rattle.std.proofs.Common.{◌≡◌, take}
use Rattle.std.specs.List.{flat_map}
use Rattle.pc_desk_widths.specs.Shown.{rows_at}
use Rattle.pc_desk_widths.proofs.sheet.change_rows.Given as goal

abbrev pub invariant-loop-place : goal.invariant-loop-place
invariant-loop-place l =
    l.rows.items ≡ flat_map (rows_at l.constraints l.places l.all l.block) (take l.place-index l.order)
