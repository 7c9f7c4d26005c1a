use Rattle.std.proofs.Common.{◌<◌, ℕ, get_or, pos}
use Rattle.pc_program_bound.specs.Short.{IsShortNumber}
use Rattle.pc_program_bound.proofs.tables.are_short.Given as goal

abbrev pub invariant-loop-number : goal.invariant-loop-number
invariant-loop-number l = (i : ℕ) → i < l.number-index → IsShortNumber (get_or l.numbers i (pos 0))
