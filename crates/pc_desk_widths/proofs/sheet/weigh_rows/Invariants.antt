use Rattle.std.proofs.Common.{◌≡◌, take}
use Rattle.pc_desk_widths.specs.Shown.{weigh_rows}
use Rattle.pc_desk_widths.proofs.sheet.weigh_rows.Given as goal

abbrev pub invariant-loop-block : goal.invariant-loop-block
invariant-loop-block l =
    l.rows.items ≡ weigh_rows l.constraints l.places l.all (take l.block l.orders)
