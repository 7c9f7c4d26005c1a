use Rattle.std.proofs.Common.{◌≡◌, ◌≤◌, ◌^◌, ◌++◌, drop}
use Rattle.pc_desk_draw.specs.Stacked.{bars_from}
use Rattle.pc_desk_draw.proofs.bars.bars_from.Given as goal

-- what is left decides
abbrev pub invariant-loop-picture : goal.invariant-loop-picture
invariant-loop-picture l = record {
  text : l.text.items ++ bars_from l.top (drop l.picture-index l.pictures) ≡ bars_from 5 l.pictures;
  small : l.top ≤ 2 ^ 79;
}
