use Rattle.std.proofs.Common.{◌≡◌, filter, map}
use Rattle.std.specs.List.{range_with_len}
use Rattle.pc_desk_limit.specs.Lines.{closed_name, is_free}
use Rattle.pc_desk_limit.proofs.lines.free_names.Given as goal

abbrev pub invariant-loop-place : goal.invariant-loop-place
invariant-loop-place l = l.names ≡ filter (is_free l.constraints) (map closed_name (range_with_len 1 l.place))
