use Rattle.std.proofs.Common.{◌≡◌, map, take}
use Rattle.pc_desk_widths.specs.Tornado.{change_bar}
use Rattle.pc_desk_widths.proofs.picture.change_bars.Given as goal

abbrev pub invariant-loop-place : goal.invariant-loop-place
invariant-loop-place l =
    l.rows.items ≡ map (change_bar l.constraints l.places l.all l.block) (take l.place-index l.order)
