use Rattle.std.specs.Int.{int_div_euclid}
use Rattle.pc_program_bound.specs.Bound.{IsFit}
use Rattle.pc_simplex_short.proofs.Made.{IsMadeTo}
use Rattle.pc_simplex_short.proofs.together.divide.Given as goal

abbrev pub invariant-loop-entry : goal.invariant-loop-entry
invariant-loop-entry l = IsMadeTo (λ a. int_div_euclid a l.divisor) IsFit l.fn.entries l.entries l.entry-index
