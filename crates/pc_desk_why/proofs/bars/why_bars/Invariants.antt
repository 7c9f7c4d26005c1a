use Rattle.std.proofs.Common.{◌≡◌, map, take}
use Rattle.pc_desk_why.specs.Bars.{picture_of}
use Rattle.pc_desk_why.proofs.bars.why_bars.Given as goal

abbrev pub invariant-loop-told : goal.invariant-loop-told
invariant-loop-told l = l.pictures ≡ map (picture_of l.constraints l.lines) (take l.told-index l.fn.all)
