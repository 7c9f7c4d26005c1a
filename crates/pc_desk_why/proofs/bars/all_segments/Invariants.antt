use Rattle.std.proofs.Common.{◌≡◌, take}
use Rattle.pc_desk_why.specs.Bars.{all_segments}
use Rattle.pc_desk_why.proofs.bars.all_segments.Given as goal

abbrev pub invariant-loop-row : goal.invariant-loop-row
invariant-loop-row l = l.all.items ≡ all_segments (take l.row-index l.rows)
