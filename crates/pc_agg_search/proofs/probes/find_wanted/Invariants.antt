use Rattle.std.proofs.Common.{All, take}
use Rattle.std.specs.Prelude.{ℕ, List}
use Rattle.pc_agg_search.specs.Wants.{IsFound}
use Rattle.pc_agg_search.proofs.probes.find_wanted.Given as goal

abbrev pub invariant-loop-place : goal.invariant-loop-place
invariant-loop-place l = All (λ (counts : List ℕ). IsFound l.fn.program l.want counts → ⊥) (take l.place l.fn.found)
