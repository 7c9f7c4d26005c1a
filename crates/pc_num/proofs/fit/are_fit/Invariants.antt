use Rattle.std.proofs.Common.{All}
use Rattle.std.specs.Prelude.{take}
use Rattle.pc_num.specs.Signs.{Fits}
use Rattle.pc_num.proofs.fit.are_fit.Given as goal

abbrev pub invariant-loop-number : goal.invariant-loop-number
invariant-loop-number l = All Fits (take l.number-index l.numbers)
