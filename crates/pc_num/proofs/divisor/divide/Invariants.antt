use Rattle.std.proofs.Common.{◌≡◌, ◌++◌, take, drop, map}
use Rattle.std.specs.Prelude.{int_div}
use Rattle.pc_num.proofs.divisor.divide.Given as goal

abbrev pub invariant-loop-entry : goal.invariant-loop-entry
invariant-loop-entry l = l.row ≡ map (λ x. int_div x l.divisor) (take l.entry-index l.fn.row) ++ drop l.entry-index l.fn.row
