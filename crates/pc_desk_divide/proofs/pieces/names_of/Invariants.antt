use Rattle.std.proofs.Common.{◌≡◌, flat_map}
use Rattle.std.specs.List.{range_with_len}
use Rattle.pc_desk_divide.specs.Pieces.{name_in}
use Rattle.pc_desk_divide.proofs.pieces.names_of.Given as goal

abbrev pub invariant-loop-place : goal.invariant-loop-place
invariant-loop-place l = l.names ≡ flat_map (name_in l.bits) (range_with_len 0 l.place)
