use Rattle.std.proofs.Common.{◌≡◌, ℕ, ◌<◌, true}
use Rattle.pc_program.specs.Settled.{is_in}
use Rattle.pc_nested.proofs.conditions.are_apart.Given as goal

abbrev pub invariant-loop-cell : goal.invariant-loop-cell
invariant-loop-cell l = (i : ℕ) → i < l.cell → is_in l.p i l.first ≡ true → is_in l.p i l.second ≡ true → ⊥
