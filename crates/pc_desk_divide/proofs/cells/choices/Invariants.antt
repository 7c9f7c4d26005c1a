use Rattle.std.proofs.Common.{◌≡◌, take}
use Rattle.std.specs.Prelude.{fold}
use Rattle.pc_desk_divide.specs.Cells.{times}
use Rattle.pc_desk_divide.proofs.cells.choices.Given as goal

abbrev pub invariant-loop-parting : goal.invariant-loop-parting
invariant-loop-parting l = l.count ≡ fold times 1 (take l.parting-index l.partings)
