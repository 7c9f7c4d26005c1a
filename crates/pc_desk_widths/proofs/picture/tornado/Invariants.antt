use Rattle.std.proofs.Common.{◌≡◌, map, take}
use Rattle.std.specs.List.{enumerate_from}
use Rattle.pc_desk_widths.specs.Tornado.{picture_at}
use Rattle.pc_desk_widths.proofs.picture.tornado.Given as goal

abbrev pub invariant-loop-block : goal.invariant-loop-block
invariant-loop-block l =
    l.pictures ≡ map (picture_at l.constraints l.places l.all) (enumerate_from 0 (take l.block l.orders))
