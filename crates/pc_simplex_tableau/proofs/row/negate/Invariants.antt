use Rattle.std.proofs.Common.{◌≡◌, ◌++◌, take, drop, map, neg_ℤ, All}
use Rattle.pc_program_bound.specs.Bound.{IsFit}
use Rattle.pc_simplex_tableau.proofs.row.negate.Given as goal

abbrev pub invariant-loop-number : goal.invariant-loop-number
invariant-loop-number l = record {
  made : l.numbers ≡ map neg_ℤ (take l.number-index l.fn.numbers) ++ drop l.number-index l.fn.numbers;
  fits : All IsFit l.numbers;
}
