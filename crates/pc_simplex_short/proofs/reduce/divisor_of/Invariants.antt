use Rattle.std.proofs.Common.{ℕ, ◌≤ℤ◌, pos, unsigned_abs, drop}
use Rattle.pc_num.specs.Divisor.{IsRowGcd}
use Rattle.pc_num.proofs.Rows.{IsGcdWith}
use Rattle.pc_program_bound.specs.Bound.{IsFit}
use Rattle.pc_simplex_tableau.specs.Numbers.{combined}
use Rattle.pc_simplex_short.proofs.reduce.divisor_of.Given as goal

abbrev pub invariant-loop-place : goal.invariant-loop-place
invariant-loop-place l = record {
  fits : IsFit l.divisor;
  sign : pos 0 ≤ℤ l.divisor;
  kept : (g : ℕ) → IsGcdWith (unsigned_abs l.divisor) (drop l.place (combined l.p l.row l.t l.other)) g
      → IsRowGcd (combined l.p l.row l.t l.other) g;
}
