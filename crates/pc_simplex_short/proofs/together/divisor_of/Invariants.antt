use Rattle.std.proofs.Common.{ℕ, ◌≤ℤ◌, ◌∷◌, pos, unsigned_abs, drop}
use Rattle.pc_num.specs.Divisor.{IsRowGcd}
use Rattle.pc_num.proofs.Rows.{IsGcdWith}
use Rattle.pc_program_bound.specs.Bound.{IsFit}
use Rattle.pc_simplex_short.proofs.together.divisor_of.Given as goal

abbrev pub invariant-loop-entry : goal.invariant-loop-entry
invariant-loop-entry l = record {
  fits : IsFit l.divisor;
  sign : pos 0 ≤ℤ l.divisor;
  kept : (g : ℕ) → IsGcdWith (unsigned_abs l.divisor) (drop l.entry-index l.entries) g → IsRowGcd (l.weight ∷ l.entries) g;
}
