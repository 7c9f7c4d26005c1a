use Rattle.std.proofs.Common.{◌≡◌, ℕ, ◌<◌, ◌≤◌, false}
use Rattle.pc_program.specs.Settled.{is_in}
use Rattle.pc_program.proofs.conditions.first_from.Given as goal

abbrev pub invariant-loop-cell : goal.invariant-loop-cell
invariant-loop-cell l = (l.from ≤ l.cell) × ((j : ℕ) → l.from ≤ j → j < l.cell → is_in l.p j l.constraint ≡ false)
