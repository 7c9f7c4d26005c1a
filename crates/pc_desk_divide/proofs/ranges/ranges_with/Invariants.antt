use Rattle.std.proofs.Common.{◌≡◌, map}
use Rattle.std.specs.List.{range_with_len}
use Rattle.pc_desk_divide.specs.Pieces.{range_at}
use Rattle.pc_desk_divide.proofs.ranges.ranges_with.Given as goal

abbrev pub invariant-loop-place : goal.invariant-loop-place
invariant-loop-place l = l.ranges ≡ map (range_at l.low l.width l.count) (range_with_len 0 l.place)
