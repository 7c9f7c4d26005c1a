use Rattle.std.proofs.Common.{◌≡◌, All, take}
use Rattle.std.specs.Prelude.{ℕ, List}
use Rattle.pc_program_bound.specs.Allocation.{worth}
use Rattle.pc_agg_search.proofs.reached.find_worth.Given as goal

abbrev pub invariant-loop-place : goal.invariant-loop-place
invariant-loop-place l = All (λ (counts : List ℕ). worth l.fn.p counts ≡ l.wanted → ⊥) (take l.place l.fn.found)
