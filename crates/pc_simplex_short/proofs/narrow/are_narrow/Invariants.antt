use Rattle.std.proofs.Common.{◌<◌, ℕ, get_or, pos}
use Rattle.pc_simplex_short.specs.Kept.{IsWithin}
use Rattle.pc_simplex_short.proofs.narrow.are_narrow.Given as goal

abbrev pub invariant-loop-number : goal.invariant-loop-number
invariant-loop-number l = (i : ℕ) → i < l.number-index → IsWithin 55 (get_or l.aim i (pos 0))
