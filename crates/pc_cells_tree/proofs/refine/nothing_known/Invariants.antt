use Rattle.std.proofs.Common.{◌≡◌, ℕ, length}
use Rattle.pc_cells_tree.specs.Knowing.{known_at, nothing}
use Rattle.pc_cells_tree.proofs.refine.nothing_known.Given as goal

abbrev pub invariant-loop : goal.invariant-loop
invariant-loop l = (length l.known ≡ l.counter) × ((k : ℕ) → known_at l.known k ≡ nothing)
