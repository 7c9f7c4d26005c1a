use Rattle.std.proofs.Common.{neg_ℤ}
use Rattle.pc_simplex_short.specs.Kept.{IsWithin}
use Rattle.pc_simplex_short.proofs.Made.{IsMadeTo}
use Rattle.pc_simplex_short.proofs.row.negate.Given as goal

abbrev pub invariant-loop-number : goal.invariant-loop-number
invariant-loop-number l = IsMadeTo neg_ℤ (IsWithin 50) l.fn.numbers l.numbers l.number-index
